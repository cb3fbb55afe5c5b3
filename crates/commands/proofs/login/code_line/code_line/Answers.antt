use Rattle.std.proofs.Common.{◌≡◌, ◌++◌, ◌∷◌, [], List, ℕ, arith, subst}
use Rattle.std.specs.Str.{byte}
use Rattle.std.proofs.lemmas.List.{take_all}
use Rattle.std.proofs.lemmas.Result.{IfOk-weaker}
use Rattle.sasl_desk.specs.{two_texts}
use Rattle.commands.proofs.login.code_line.code_line.Goals as goal

-- a line of the protocol is not cut
pub returns-in-Two-clause-ok : goal.returns-in-Two-clause-ok
returns-in-Two-clause-ok c =
    let says = rw c.in-Two.is at c.codes_in.ensures in
    let short = says.short in
    let whole = take_all 6201 c.args.line.now (omega (arith, short)) in
    IfOk-weaker c.code_text_line-in-Two.result _ _
    (λ said is. (
      two_texts c.in-Two.field-0.now c.in-Two.field-1.now,
      says,
      subst
          (λ (text : List ℕ). said.items ≡ text ++ byte "\n" ∷ []) whole is,
    ))
    c.code_text_line-in-Two.ensures.ok
