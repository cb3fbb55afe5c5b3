use Rattle.std.proofs.Common.{◌≡◌, ℕ, List, [], ◌++◌, ◌∙◌, ap, arith}
use Rattle.std.specs.Prelude.{codes}
use Rattle.scram_text.specs.Base64Field.{base64}
use Rattle.scram_text.specs.Limits.{max_tag_len}
use Rattle.scram_text.specs.Messages.{verifier}
use Rattle.scram_text.specs.Written.{server_final_of}
use Rattle.scram_text.proofs.lemmas.Base64.{field_has_its_length}
use Rattle.c_library.proofs.lemmas.Verifiers.{error_is_no_verifier, field_is_server_final, one_signature}
use Rattle.c_library.proofs.verifier.tag_of.Goals as goal

pub returns-then-field-gt88 : goal.returns-then-field-gt88
returns-then-field-gt88 c = λ bytes field is.
    absurd (omega (arith, field_has_its_length max_tag_len c.args.field.now bytes is field, c.if-field-gt88.true))

pub returns-in_default : goal.returns-in_default
returns-in_default c = λ bytes field is.
    let front : c.add.new.text.items ≡ codes "v=" = c.add.ensures.value ∙ ap (λ (t : List ℕ). t ++ codes "v=") c.new-text.ensures in
    let text : c.as_slice.result.now ≡ codes "v=" ++ base64 bytes = c.as_slice.ensures.value ∙ c.add-2.ensures.value
    ∙ (λ i. front i ++ is i) in
    absurd (c.in_default.ensures.every (server_final_of (verifier bytes) []) (field_is_server_final _ bytes field text))

pub returns-in-Verifier : goal.returns-in-Verifier
returns-in-Verifier c = λ bytes field is.
    let front : c.add.new.text.items ≡ codes "v=" = c.add.ensures.value ∙ ap (λ (t : List ℕ). t ++ codes "v=") c.new-text.ensures in
    let text : c.as_slice.result.now ≡ codes "v=" ++ base64 bytes = c.as_slice.ensures.value ∙ c.add-2.ensures.value
    ∙ (λ i. front i ++ is i) in
    let shows = c.in-Ok.ensures.every (server_final_of (verifier bytes) []) (field_is_server_final _ bytes field text) in
    let told = rw c.in-Verifier.is at shows.verifier_or_error in
    let same = one_signature _ bytes told in
    cc (same, c.in-Verifier.tag-is)

pub returns-in-ErrorValue : goal.returns-in-ErrorValue
returns-in-ErrorValue c = λ bytes field is.
    let front : c.add.new.text.items ≡ codes "v=" = c.add.ensures.value ∙ ap (λ (t : List ℕ). t ++ codes "v=") c.new-text.ensures in
    let text : c.as_slice.result.now ≡ codes "v=" ++ base64 bytes = c.as_slice.ensures.value ∙ c.add-2.ensures.value
    ∙ (λ i. front i ++ is i) in
    let shows = c.in-Ok.ensures.every (server_final_of (verifier bytes) []) (field_is_server_final _ bytes field text) in
    let told = rw c.in-ErrorValue.is at shows.verifier_or_error in
    absurd (error_is_no_verifier _ bytes told)
