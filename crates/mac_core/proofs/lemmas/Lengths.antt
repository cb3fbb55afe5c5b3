-- The length of a MAC for each mechanism.
use Rattle.std.proofs.Common.{◌≡◌, ℕ, List, length}
use Rattle.sha2.proofs.Facts256.{length-sha256}
use Rattle.mac_core.specs.Digest.{length-sha1}
use Rattle.mac_core.specs.Hmac.{hmac}
use Rattle.mac_core.specs.Mechanism.{digest_len_by, hmac_by}
use Rattle.mac_core.specs.declared.mechanism.Mechanism.{Mechanism}
use Rattle.mac_core.specs.declared.mechanism.Mechanism.TheVariants.{ScramSha1, ScramSha256}

-- a MAC has the length of the mechanism's digests
pub length-hmac_by : (m : Mechanism) (key text : List ℕ) → length (hmac_by m key text) ≡ digest_len_by m
unfolding hmac
length-hmac_by ScramSha1 key text = length-sha1 _
length-hmac_by ScramSha256 key text = length-sha256 _
