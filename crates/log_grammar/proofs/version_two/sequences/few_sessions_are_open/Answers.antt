use Rattle.std.proofs.Common.{◌≡◌, ◌⊎◌, inl, inr, ℕ, ◌+◌, ◌≤◌, List, ◌∷◌, ◌++◌, [], arith}
use Rattle.log_grammar.specs.Lines.{LogLine, said, busy}
use Rattle.log_grammar.specs.Demands.{demands}
use Rattle.log_grammar.specs.Numbered.{Numbered, numbered, given_in, closed_in}
use Rattle.log_grammar.proofs.lemmas.many_sessions.OpenCounts.{FewOpen, few_are_open, open_numbers_are_counted}
use Rattle.log_grammar.proofs.version_two.sequences.few_sessions_are_open.Goals as goal

-- if the open and the closed sessions are those given, at most `limit` are open, or BUSY is the last line and `limit` + 1 are open
few_numbers_are_open : (limit opens : ℕ) (log : List (Numbered LogLine)) → opens + closed_in log ≡ given_in log → FewOpen limit log
    → (opens ≤ limit) ⊎ ((before : List (Numbered LogLine)) × (n : ℕ) × (log ≡ before ++ numbered n (said busy) ∷ []) × (opens ≡ limit + 1))
few_numbers_are_open limit opens log all (inl few) = inl (omega (arith, all, few))
few_numbers_are_open limit opens log all (inr (before, n, last, many)) = inr (before, n, last, omega (arith, all, many))

pub returns : goal.returns
returns c = λ limit accounts log places told s.
    few_numbers_are_open limit _ log (open_numbers_are_counted limit (demands accounts) log places told s)
    (few_are_open limit (demands accounts) log places told s)
