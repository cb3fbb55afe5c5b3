-- What is known of the MACs of keys that are ready.
use Rattle.std.proofs.Common.{ℕ, List, []}
use Rattle.std.proofs.Math.Logic.{∥∥₁_elim}
use Rattle.std.proofs.Props.{props}
use mathlib.Core.HLevel.{×_prop, ⊥_prop}
use Rattle.sha1.specs.Sha1 as by_sha1
use Rattle.sha2.specs.Sha256 as by_sha256
use Rattle.mac_core.specs.Mechanism.{IsScramMac}
use Rattle.mac_core.specs.declared.mechanism.Mechanism.{Mechanism}
use Rattle.mac_core.specs.declared.mechanism.Mechanism.TheVariants.{ScramSha1, ScramSha256}
use Rattle.mac_core.specs.declared.mechanism.ScramMac.{ScramMac}
use Rattle.mac_core.specs.declared.mechanism.ScramMac.TheVariants.{BySha1, BySha256}

-- that a running MAC is that of a key and a text has at most one proof
pub one_proof_of_scram_mac : (m : Mechanism) (mac : ScramMac) (key text : List ℕ) → IsProp (IsScramMac m mac key text)
unfolding by_sha1.Holds by_sha256.Holds
one_proof_of_scram_mac ScramSha1 (BySha1 mac) key text = Prim.hlevel props
one_proof_of_scram_mac ScramSha256 (BySha256 mac) key text = Prim.hlevel props
one_proof_of_scram_mac ScramSha1 (BySha256 mac) key text = ⊥_prop
one_proof_of_scram_mac ScramSha256 (BySha1 mac) key text = ⊥_prop

-- if there is a proof that two running MACs are those of two keys and the empty text, they are
pub ready_macs_are : (m : Mechanism) (proof_mac signature_mac : ScramMac) (stored server : List ℕ)
    → ∥ IsScramMac m proof_mac stored [] × IsScramMac m signature_mac server [] ∥₁
    → IsScramMac m proof_mac stored [] × IsScramMac m signature_mac server []
ready_macs_are m proof_mac signature_mac stored server ready =
    ∥∥₁_elim ready (×_prop (one_proof_of_scram_mac m proof_mac stored []) (one_proof_of_scram_mac m signature_mac server [])) (λ macs. macs)
