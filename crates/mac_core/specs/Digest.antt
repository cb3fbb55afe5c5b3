-- The length of a SHA-1 digest, which `digest_len` of `HashFn` cites. It is here and not in proofs/ because the law of a trait
-- cannot cite a lemma of its own crate's proofs/.
use Rattle.std.proofs.Common.{◌≡◌, ◌*◌, ℕ, zero, suc, List, arith, length, length-append, refl}
use Rattle.std.specs.Prelude.{slice_index}
use Rattle.std.specs.Int.{to_be_bytes, w32}
use Rattle.sha1.specs.Sha1.{digest_bytes, sha1}

-- n words of a hash value are 4 * n bytes
length-digest_bytes : (h : List ℕ) (n : ℕ) → length (digest_bytes h n) ≡ 4 * n
unfolding digest_bytes
length-digest_bytes h zero = refl
length-digest_bytes h (suc n) =
    let word : length (to_be_bytes w32 (slice_index h n)) ≡ 4 = refl in
    omega (
      arith,
      length-digest_bytes h n,
      word,
      length-append (digest_bytes h n) (to_be_bytes w32 (slice_index h n)),
    )

-- a SHA-1 digest has 20 bytes
pub length-sha1 : (m : List ℕ) → length (sha1 m) ≡ 20
unfolding sha1
length-sha1 m = length-digest_bytes _ 5
