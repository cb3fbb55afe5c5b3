use Rattle.log_grammar.specs.Demands.{demands}
use Rattle.log_grammar.proofs.lemmas.upgraded_logs.GoesOnAlike.{old_log_ends_iff_upgraded}
use Rattle.log_grammar.proofs.upgraded.logs.logs_with_numbers_are_clean.Goals as goal

pub returns : goal.returns
returns c = λ limit accounts lines some. old_log_ends_iff_upgraded limit (demands accounts) lines some
