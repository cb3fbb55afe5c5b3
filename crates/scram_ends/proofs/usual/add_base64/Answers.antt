use Rattle.std.proofs.Common.{◌≡◌, List, ℕ, ◌++◌, length, take, ◌∙◌, ap, arith}
use Rattle.base64.specs.Engines.{standard}
use Rattle.base64.specs.GeneralPurpose.{encode_of, encoded_size_of}
use Rattle.base64.proofs.EngineFacts.{encoded_prefix}
use Rattle.scram_text.specs.Base64Field.{base64}
use Rattle.scram_ends.proofs.usual.add_base64.Goals as goal

pub returns-clause-value : goal.returns-clause-value
unfolding base64
returns-clause-value g c =
    let written : take c.in-Ok.size c.encode_slice.new.output ≡ base64 c.args.bytes.now =
    encoded_prefix (encode_of standard c.args.bytes.now) _ c.encode_slice.new.output
    (encoded_size_of standard (length c.args.bytes.now)) c.in-Ok.size c.encode_slice.result _
    (omega arith) c.encode_slice.ensures.fits c.encode_slice.ensures.too_small c.in-Ok.is c.in-Ok.ensures.written in
    c.add.ensures.value ∙ ap (λ (t : List ℕ). c.args.text.now.items ++ t) written
