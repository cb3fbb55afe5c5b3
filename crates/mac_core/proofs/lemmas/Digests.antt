-- The digests and MACs of a mechanism are bytes; and XORing twice with the same bytes changes nothing.
use Rattle.std.proofs.Common.{◌≡◌, ℕ, zero, suc, ◌<◌, ◌/◌, ◌^◌, List, [], ◌∷◌, ◌++◌, length, refl, ◌∙◌, ap, subst, sym, arith}
use Rattle.std.proofs.Math.Nat.{mod-lt}
use Rattle.std.specs.Prelude.{bit_xor, slice_index}
use Rattle.std.specs.Int.{byte_at, bytes_high_first}
use Rattle.std.specs.Int.Bits.{xor_assoc, xor_self, xor_zero_r}
use Rattle.sha1.specs.Sha1.{sha1}
use Rattle.sha1.specs.Sha1 as short
use Rattle.sha2.specs.Sha256.{sha256}
use Rattle.sha2.specs.Sha256 as long
use Rattle.mac_core.specs.Hmac.{hmac}
use Rattle.mac_core.specs.Keys.{xor_bytes}
use Rattle.mac_core.specs.Mechanism.{hash_by, hmac_by}
use Rattle.mac_core.specs.declared.mechanism.Mechanism.{Mechanism}
use Rattle.mac_core.specs.declared.mechanism.Mechanism.TheVariants.{ScramSha1, ScramSha256}

-- each element is a byte
abbrev pub AreBytes : List ℕ → Type 0
AreBytes bytes = (i : ℕ) → slice_index bytes i < 256

-- each byte of a number is below 256
byte_at_is_byte : (k n : ℕ) → byte_at k n < 256
byte_at_is_byte zero n = mod-lt n (omega arith)
byte_at_is_byte (suc k) n = mod-lt (n / 256 ^ suc k) (omega arith)

-- the bytes of a number, the highest first, are each below 256
number_is_bytes : (k n : ℕ) → AreBytes (bytes_high_first k n)
number_is_bytes zero n i = omega arith
number_is_bytes (suc k) n zero = byte_at_is_byte k n
number_is_bytes (suc k) n (suc i) = number_is_bytes k n i

-- two lists of bytes joined are bytes
joined_is_bytes : (front back : List ℕ) → AreBytes front → AreBytes back → AreBytes (front ++ back)
joined_is_bytes [] back is also i = also i
joined_is_bytes (b ∷ front) back is also zero = is 0
joined_is_bytes (b ∷ front) back is also (suc i) = joined_is_bytes front back (λ j. is (suc j)) also i

-- bytes that are written word after word are bytes
words_are_bytes : (written : List ℕ → ℕ → List ℕ) → ((words : List ℕ) → written words 0 ≡ [])
    → ((words : List ℕ) (n : ℕ) → written words (suc n) ≡ written words n ++ bytes_high_first 4 (slice_index words n))
    → (words : List ℕ) (n : ℕ) → AreBytes (written words n)
words_are_bytes written none next words zero = subst AreBytes (sym (none words)) (λ i. omega arith)
words_are_bytes written none next words (suc n) = subst AreBytes (sym (next words n))
    (joined_is_bytes (written words n) _ (words_are_bytes written none next words n) (number_is_bytes 4 (slice_index words n)))

-- the elements of a digest of SHA-1 are each below 256
sha1_digest_is_bytes : (words : List ℕ) (n : ℕ) → AreBytes (short.digest_bytes words n)
unfolding short.digest_bytes
sha1_digest_is_bytes = words_are_bytes short.digest_bytes (λ words. refl) (λ words n. refl)

-- the elements of a digest of SHA-256 are each below 256
sha256_digest_is_bytes : (words : List ℕ) (n : ℕ) → AreBytes (long.digest_bytes words n)
unfolding long.digest_bytes
sha256_digest_is_bytes = words_are_bytes long.digest_bytes (λ words. refl) (λ words n. refl)

-- the elements of a text's digest by a mechanism are each below 256
digest_is_bytes : (m : Mechanism) (text : List ℕ) → AreBytes (hash_by m text)
unfolding sha1 sha256
digest_is_bytes ScramSha1 text i = sha1_digest_is_bytes _ 5 i
digest_is_bytes ScramSha256 text i = sha256_digest_is_bytes _ 8 i

-- the elements of a text's MAC by a mechanism, with any key, are each below 256
pub mac_is_bytes : (m : Mechanism) (key text : List ℕ) → AreBytes (hmac_by m key text)
unfolding hmac
mac_is_bytes m key text i = digest_is_bytes m _ i

-- the XOR of two lists of the same length has that length
pub length-xor : (a b : List ℕ) → length a ≡ length b → length (xor_bytes a b) ≡ length a
unfolding xor_bytes
length-xor [] ys same = refl
length-xor (x ∷ xs) [] same = absurd (omega (arith, same))
length-xor (x ∷ xs) (y ∷ ys) same = ap suc (length-xor xs ys (omega (arith, same)))

-- a number to which another is XORed twice is the number again
xor_cancels : (x y : ℕ) → bit_xor (bit_xor x y) y ≡ x
xor_cancels x y = xor_assoc x y y ∙ (ap (bit_xor x) (xor_self y) ∙ xor_zero_r x)

-- a list to which another of the same length is XORed twice is the list again
pub xor_bytes_cancels : (a b : List ℕ) → length a ≡ length b → xor_bytes (xor_bytes a b) b ≡ a
unfolding xor_bytes
xor_bytes_cancels [] ys same = refl
xor_bytes_cancels (x ∷ xs) [] same = absurd (omega (arith, same))
xor_bytes_cancels (x ∷ xs) (y ∷ ys) same =
    ap (λ (first : ℕ). first ∷ xor_bytes (xor_bytes xs ys) ys) (xor_cancels x y)
    ∙ ap (λ rest. x ∷ rest) (xor_bytes_cancels xs ys (omega (arith, same)))
