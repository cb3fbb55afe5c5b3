use Rattle.std.proofs.Common.{◌≡◌, sym, ◌∙◌, arith}
use Rattle.std.proofs.lemmas.Fmt.{decimal_injective}
use Rattle.scram_text.proofs.lemmas.Counts.{count_is_below_2_64}
use Rattle.scram_text.proofs.field.count.Goals.{then-number-lt1-via-then-number-lt1, then-number-lt1-via-else-number-lt1+then-from-number}
use Rattle.scram_text.proofs.field.count.Goals as goal

pub returns-in_default-clause-none : goal.returns-in_default-clause-none
returns-in_default-clause-none c = λ (n, spelled, is). c.in_default.ensures.none n (count_is_below_2_64 n is) spelled

pub returns-then-number-lt1-clause-none : goal.returns-then-number-lt1-clause-none
returns-then-number-lt1-clause-none c = λ (n, spelled, is).
    let found = c.in-Some.ensures.some in
    let same : n ≡ c.in-Some.number = decimal_injective n c.in-Some.number (count_is_below_2_64 n is) found.1 (sym spelled ∙ found.0) in
    elim c.then-number-lt1.branch [
      | then-number-lt1-via-then-number-lt1 w ↦ absurd (omega (arith, same, is.at_least, w.if-number-lt1.true))
      | then-number-lt1-via-else-number-lt1+then-from-number w ↦
          absurd (omega (arith, same, is.at_most, w.if-from-number.true))
    ]
