use Rattle.log_grammar.proofs.lemmas.login_laws.CodesOfLogin.{each_code_is_of_its_login}
use Rattle.log_grammar.proofs.version_one.by_sessions.each_code_is_of_its_login.Goals as goal

pub returns : goal.returns
returns c = each_code_is_of_its_login
