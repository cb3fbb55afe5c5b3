use Rattle.log_grammar.specs.Demands.{demands}
use Rattle.log_grammar.proofs.lemmas.many_sessions.WithoutLast.{numbered_log_has_last_transition}
use Rattle.log_grammar.proofs.version_two.sequences.goes_on_by_no_other_numbered_line.Goals as goal

pub returns : goal.returns
returns c = λ limit accounts log n line places all s. numbered_log_has_last_transition limit (demands accounts) log n line places all s
