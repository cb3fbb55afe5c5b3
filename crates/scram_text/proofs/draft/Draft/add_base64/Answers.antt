use Rattle.std.proofs.Common.{◌≡◌, ℕ, List, ◌++◌, length, take, subst, arith}
use Rattle.base64.specs.Engines.{standard}
use Rattle.base64.specs.GeneralPurpose.{encode_of, encoded_size_of}
use Rattle.base64.proofs.EngineFacts.{encoded_prefix}
use Rattle.scram_text.specs.Base64Field.{base64}
use Rattle.scram_text.specs.Draft.{IsDraftOf}
use Rattle.scram_text.proofs.draft.Draft.add_base64.Goals as goal

pub returns : goal.returns
unfolding base64
returns g c = λ text is.
    let written : take c.in-Ok.size c.encode_slice.new.output ≡ base64 c.args.bytes.now =
    encoded_prefix (encode_of standard c.args.bytes.now) _ c.encode_slice.new.output
    (encoded_size_of standard (length c.args.bytes.now)) c.in-Ok.size c.encode_slice.result _
    (omega arith) c.encode_slice.ensures.fits c.encode_slice.ensures.too_small c.in-Ok.is c.in-Ok.ensures.written in
    subst (λ (t : List ℕ). IsDraftOf c.add.new.self (text ++ t)) written (c.add.ensures text is)
