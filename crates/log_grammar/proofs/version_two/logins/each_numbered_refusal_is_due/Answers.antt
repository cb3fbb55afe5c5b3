use Rattle.log_grammar.proofs.lemmas.login_laws.NumberedLogins.{each_numbered_refusal_is_due}
use Rattle.log_grammar.proofs.version_two.logins.each_numbered_refusal_is_due.Goals as goal

pub returns : goal.returns
returns c = each_numbered_refusal_is_due
