use Rattle.std.proofs.Common.{inl, inr}
use Rattle.log_grammar.proofs.lemmas.lines.LinesDecided.{line_is_decided, log_line_is_decided}
use Rattle.log_grammar.proofs.lemmas.lines.ReadBack.{one_line, each_text_is_at_most_one_log_line}
use Rattle.log_grammar.proofs.judgements.each_text_is_one_line_or_none.Goals as goal

pub returns-clause-protocol : goal.returns-clause-protocol
returns-clause-protocol c = λ text. elim (line_is_decided text) [
  | inl found ↦ inl (found.0, found.1, λ other also. one_line text other found.0 also found.1)
  | inr none ↦ inr none
]

pub returns-clause-log : goal.returns-clause-log
returns-clause-log c = λ text. elim (log_line_is_decided text) [
  | inl found ↦ inl (found.0, found.1, λ other also. each_text_is_at_most_one_log_line text other found.0 also found.1)
  | inr none ↦ inr none
]
