-- The schedule and the rounds of both hash functions, by the words so far.
use Rattle.std.proofs.Common.{◌≡◌, ℕ, ◌+◌, ◌-◌, ◌<◌, ◌≤◌, List, [], ◌∷◌, length, take, slice_index, slice_set, refl, inl, inr, ◌∙◌, arith}
use Rattle.std.proofs.lemmas.Bool.{cases_lt}
use Rattle.std.proofs.lemmas.List.{get_or-set_same, get_or-set_other}
use Rattle.sha1.specs.Sha1 as S1
use Rattle.sha1.proofs.Schedule as P1
use Rattle.sha2.specs.Sha256 as S256
use Rattle.sha2.proofs.Schedule256 as P256

-- a list that agrees with f below t agrees with it below t + 1, once its element at t is that of f
pub set_more : (w : List ℕ) (f : ℕ → ℕ) (t x : ℕ) → t < length w → ((k : ℕ) → k < t → slice_index w k ≡ f k) → x ≡ f t
    → (k : ℕ) → k < t + 1 → slice_index (slice_set w t x) k ≡ f k
set_more w f t x fits before at k below = elim (cases_lt k t) [
  | inl a ↦ get_or-set_other w t k x 0 (omega arith) ∙ before k a
  | inr b ↦
      let e : t ≡ k = omega arith in
      rw (← e) (get_or-set_same w t x 0 fits ∙ at)
]

-- W t of SHA-256 reads only the words below t
pub next_word_256 : (w s : List ℕ) (t : ℕ) → 16 ≤ t → ((k : ℕ) → k < t → slice_index w k ≡ slice_index s k)
    → S256.next_word w t ≡ S256.next_word s t
next_word_256 w s t least same =
    rw (same (t - 2) (omega arith), same (t - 7) (omega arith), same (t - 15) (omega arith), same (t - 16) (omega arith)) refl

-- W t of SHA-1 reads only the words below t
pub next_word_1 : (w s : List ℕ) (t : ℕ) → 16 ≤ t → ((k : ℕ) → k < t → slice_index w k ≡ slice_index s k)
    → S1.next_word w t ≡ S1.next_word s t
next_word_1 w s t least same =
    rw (same (t - 3) (omega arith), same (t - 8) (omega arith), same (t - 14) (omega arith), same (t - 16) (omega arith)) refl

-- one round of SHA-256, with its parts given by equations
pub step_256 : (value w v next : List ℕ) (t k x : ℕ) → v ≡ S256.rounds value w t → k ≡ slice_index S256.round_constants t
    → x ≡ slice_index w t → next ≡ S256.round v k x → next ≡ S256.rounds value w (t + 1)
step_256 value w v next t k x ev ek ex en = rw en (rw (P256.rounds_next value w t, ← ev, ek, ex) refl)

-- one round of SHA-1, with its parts given by equations
pub step_1 : (value w v next : List ℕ) (t f k x : ℕ) → v ≡ S1.rounds value w t
    → f ≡ S1.round_fn t (slice_index v 1) (slice_index v 2) (slice_index v 3) → k ≡ S1.round_constant t → x ≡ slice_index w t
    → next ≡ S1.round v f k x → next ≡ S1.rounds value w (t + 1)
step_1 value w v next t f k x ev ef ek ex en = rw en (rw (P1.rounds_next value w t, ← ev, ef, ek, ex) refl)

-- the first five of eight words
pub first_five : (xs : List ℕ) → length xs ≡ 8
    → slice_index xs 0 ∷ slice_index xs 1 ∷ slice_index xs 2 ∷ slice_index xs 3 ∷ slice_index xs 4 ∷ [] ≡ take 5 xs
first_five [] e = absurd (omega arith)
first_five (a ∷ []) e = absurd (omega arith)
first_five (a ∷ b ∷ []) e = absurd (omega arith)
first_five (a ∷ b ∷ c ∷ []) e = absurd (omega arith)
first_five (a ∷ b ∷ c ∷ d ∷ []) e = absurd (omega arith)
first_five (a ∷ b ∷ c ∷ d ∷ x ∷ rest) e = refl
