use Rattle.std.proofs.Common.{ℕ, List, ap}
use Rattle.std.specs.Prelude.{drop}
use Rattle.log_grammar.proofs.lemmas.lines.Payloads.{escapes_one_message}
use Rattle.log_grammar.proofs.judgements.lines_bear_one_message.Goals as goal

pub returns : goal.returns
returns c = λ one other is also same. escapes_one_message one other is also (ap (λ (l : List ℕ). drop 6 l) same)
