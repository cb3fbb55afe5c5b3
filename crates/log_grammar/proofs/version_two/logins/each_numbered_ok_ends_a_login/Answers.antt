use Rattle.log_grammar.proofs.lemmas.login_laws.NumberedLogins.{each_numbered_ok_ends_a_login}
use Rattle.log_grammar.proofs.version_two.logins.each_numbered_ok_ends_a_login.Goals as goal

pub returns : goal.returns
returns c = each_numbered_ok_ends_a_login
