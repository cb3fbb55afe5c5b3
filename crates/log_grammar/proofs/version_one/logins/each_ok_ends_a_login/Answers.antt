use Rattle.log_grammar.proofs.lemmas.login_laws.ValidLogins.{each_ok_ends_a_login}
use Rattle.log_grammar.proofs.version_one.logins.each_ok_ends_a_login.Goals as goal

pub returns : goal.returns
returns c = each_ok_ends_a_login
