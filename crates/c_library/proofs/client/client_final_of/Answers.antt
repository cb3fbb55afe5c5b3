use Rattle.std.proofs.Common.{◌≡◌, List, ℕ, ◌++◌, length, ◌∙◌, ap, arith}
use Rattle.std.specs.Prelude.{codes}
use Rattle.scram_text.specs.Base64Field.{base64}
use Rattle.c_library.proofs.lemmas.Clients.{answer_composes, answer_is_short}
use Rattle.c_library.proofs.client.client_final_of.Goals as goal

pub add-requires : goal.add-requires
add-requires c =
    let (login, is) = c.requires in
    let short = answer_is_short c.args.answer.now login is c.as_slice.result.now (c.as_slice.ensures is.honest.final is.without_proof) in
    (omega arith, omega (arith, short.0, ap length c.new-text.ensures))

pub add-requires-2 : goal.add-requires-2
add-requires-2 c =
    let (login, is) = c.requires in
    let short = answer_is_short c.args.answer.now login is c.as_slice.result.now (c.as_slice.ensures is.honest.final is.without_proof) in
    (omega arith, omega (arith, short.0, ap length c.new-text.ensures, c.add.ensures.len))

pub add_base64-requires : goal.add_base64-requires
add_base64-requires c =
    let (login, is) = c.requires in
    let short = answer_is_short c.args.answer.now login is c.as_slice.result.now (c.as_slice.ensures is.honest.final is.without_proof) in (
      omega arith,
      (
        omega (arith, c.as_slice-2.ensures.fits),
        omega (arith, short.0, ap length c.new-text.ensures, c.add.ensures.len, c.add-2.ensures.len),
      ),
    )

pub returns : goal.returns
returns c = λ login is.
    let front : c.add.new.text.items ≡ c.as_slice.result.now = c.add.ensures.value
    ∙ ap (λ (t : List ℕ). t ++ c.as_slice.result.now) c.new-text.ensures in
    let before : c.add-2.new.text.items ≡ c.as_slice.result.now ++ codes ",p=" = c.add-2.ensures.value
    ∙ ap (λ (t : List ℕ). t ++ codes ",p=") front in
    c.add_base64.ensures.value
    ∙ ap (λ (t : List ℕ). t ++ base64 c.as_slice-2.result.now) before
    ∙ answer_composes c.args.answer.now login is c.as_slice.result.now c.as_slice-2.result.now
    (c.as_slice.ensures is.honest.final is.without_proof) c.as_slice-2.ensures.value
