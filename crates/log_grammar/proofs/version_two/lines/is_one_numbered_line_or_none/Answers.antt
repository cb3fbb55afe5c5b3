use Rattle.std.proofs.Common.{inl, inr}
use Rattle.log_grammar.proofs.lemmas.lines.NumberedReadBack.{one_numbered_line, decided_numbered_line}
use Rattle.log_grammar.proofs.version_two.lines.is_one_numbered_line_or_none.Goals as goal

pub returns : goal.returns
returns c = λ text. elim (decided_numbered_line text) [
  | inl is ↦ inl (is.0, is.1, λ other also. one_numbered_line text other is.0 also is.1)
  | inr none ↦ inr none
]
