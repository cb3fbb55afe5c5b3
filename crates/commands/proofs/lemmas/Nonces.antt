-- The base64 of random bytes can be a part of a nonce: it is printable, and has no comma.
use Rattle.std.proofs.Common.{◌≡◌, ℕ, List, length, refl, arith}
use Rattle.base64.specs.GeneralPurpose.{IsBytes}
use Rattle.scram_text.specs.Class.{is_printable, IsNoncePart}
use Rattle.scram_text.specs.Base64Field.{base64}
use Rattle.scram_text.proofs.lemmas.Base64.{length-base64}
use Rattle.scram_text.proofs.lemmas.Base64Texts.{base64_passes_test}
use Rattle.commands.specs.Nonces.{nonce_bytes}

-- the base64 of 18 random bytes can be a part of a nonce
pub random_base64_is_nonce_part : (bytes : List ℕ) → IsBytes bytes → length bytes ≡ nonce_bytes → IsNoncePart (base64 bytes)
random_base64_is_nonce_part bytes fits size =
    let long = length-base64 bytes in
    record {
      at_least = omega (arith, long, size);
      at_most = omega (arith, long, size);
      each = base64_passes_test is_printable refl refl bytes fits;
    }
