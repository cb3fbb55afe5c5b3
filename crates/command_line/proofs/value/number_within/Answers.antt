use Rattle.std.proofs.Common.{◌≡◌, arith, refl, rules, sym, ◌∙◌}
use Rattle.std.proofs.lemmas.Fmt.{decimal_injective}
use Rattle.command_line.proofs.value.number_within.Goals.{in_default-via-in-Some+then-least-n+else-n-most, in_default-via-in-Some+else-least-n}
use Rattle.command_line.proofs.value.number_within.Goals.{in_default-via-in_default}
use Rattle.command_line.proofs.value.number_within.Goals as goal

pub returns-in_default-clause-err : goal.returns-in_default-clause-err
returns-in_default-clause-err c =
    let bytes : c.as_bytes.result.now ≡ c.args.text.now = search rules in elim c.in_default.branch [
      | in_default-via-in-Some+then-least-n+else-n-most w ↦
          let read = w.in-Some.ensures.some in (
            refl,
            λ n low high is.
                let same = decimal_injective w.in-Some.n n read.1 (omega arith) (sym read.0 ∙ (bytes ∙ is)) in
                absurd (omega (arith, same, w.if-n-most)),
          )
      | in_default-via-in-Some+else-least-n w ↦
          let read = w.in-Some.ensures.some in (
            refl,
            λ n low high is.
                let same = decimal_injective w.in-Some.n n read.1 (omega arith) (sym read.0 ∙ (bytes ∙ is)) in
                absurd (omega (arith, same, w.if-least-n)),
          )
      | in_default-via-in_default w ↦ (refl, λ n low high is. w.in_default.ensures.none n (omega arith) (bytes ∙ is))
    ]
