use Rattle.std.proofs.Common.{◌≤◌, inl, inr, sym, arith, length}
use Rattle.std.proofs.lemmas.List.{take_all}
use Rattle.commands.proofs.login.code_line.first_bytes.Goals as goal

pub returns-in-None : goal.returns-in-None
returns-in-None c =
    let few : length c.args.text.now ≤ 6201 = elim c.in-None.ensures.lookup.0 [
      | inl never ↦ absurd
          (omega (arith, never))
      | inr short ↦ omega (arith, short)
    ] in
    sym (take_all 6201 c.args.text.now few)
