use Rattle.log_grammar.proofs.lemmas.login_laws.PasswordLogins.{passwords_log_in}
use Rattle.log_grammar.proofs.version_one.logins.passwords_log_in.Goals as goal

pub returns : goal.returns
returns c = passwords_log_in
