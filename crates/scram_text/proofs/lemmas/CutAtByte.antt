-- Texts cut at the first of a byte: a comma, a space or an LF.
use Rattle.std.proofs.Common.{◌≡◌, inl, inr, ℕ, ◌+◌, ◌<◌, false, not, List, [], ◌∷◌, ◌++◌, length, take, drop, get_or, refl, sym, arith}
use Rattle.std.proofs.Common.{length-take}
use Rattle.std.specs.Prelude.{◌==◌, position, MatchOption}
use Rattle.std.specs.List.{position_or_len, AllByRecursion}
use Rattle.std.proofs.lemmas.Bool.{cases_Bool, cases_lt, eqb-true, eqb-false, lt-ltb, le-ltb}
use Rattle.std.proofs.lemmas.List.{take_all, get_or-take}
use Rattle.std.proofs.lemmas.List.Sums.{split_at_first, passes_at_first, fails_before_first, list_all-from_AllPass}
use Rattle.scram_text.specs.Class.{Lacks}
use Rattle.scram_text.proofs.lemmas.ListEnds.{same_head_and_tail, same_cons}

-- a byte at which texts are cut
module _ (b : ℕ) where
  -- if a text lacks the byte, its first byte is another, and the rest lacks it too
  pub head_and_rest_lack : (c : ℕ) (text : List ℕ) → Lacks b (c ∷ text) → ((c == b) ≡ false) × Lacks b text
  head_and_rest_lack c text lacks = elim (cases_Bool (c == b)) [
    | inl hit ↦ let wrong = rw hit at lacks in absurd (cc wrong)
    | inr miss ↦ (miss, rw miss at lacks)
  ]

  -- each byte of a text that lacks the byte is another
  pub bytes_are_others : (text : List ℕ) → Lacks b text → AllByRecursion (λ c. (c == b) ≡ false) text
  bytes_are_others [] lacks = tt
  bytes_are_others (c ∷ text) lacks = let each = head_and_rest_lack c text lacks in (each.0, bytes_are_others text each.1)

  -- the first byte of a text that lacks the byte is another
  head_is_another : (c : ℕ) (text : List ℕ) → Lacks b (c ∷ text) → c ≡ b → ⊥
  head_is_another c text lacks same = eqb-false c b (head_and_rest_lack c text lacks).0 same

  -- the text before the first such byte lacks it
  front_lacks : (text : List ℕ) → Lacks b (take (position_or_len (λ c. c == b) text) text)
  front_lacks text = let at = position_or_len (λ c. c == b) text in
      list_all-from_AllPass (λ c. not (c == b)) (take at text)
      (λ k d within. let below : k < at = omega (arith, within, length-take at text) in
      rw (get_or-take at text k d below, fails_before_first (λ c. c == b) text k d below) refl)

  -- a text with the byte is cut at the first: what comes before it lacks it. A text without the byte lacks it
  pub text_is_cut : (text : List ℕ) → MatchOption (position (λ c. c == b) text) (Lacks b text)
      (λ at. Lacks b (take at text) × (text ≡ take at text ++ b ∷ drop (at + 1) text))
  text_is_cut text = let at = position_or_len (λ c. c == b) text in elim (cases_lt at (length text)) [
    | inl some ↦
        let hit : get_or text at 0 ≡ b = eqb-true (get_or text at 0) b (passes_at_first (λ c. c == b) text 0 some) in
        let cut = rw hit at (split_at_first (λ c. c == b) text 0 some) in
        rw (lt-ltb at (length text) some) (front_lacks text, cut)
    | inr none ↦ rw (le-ltb at (length text) none) (rw (take_all at text none) at (front_lacks text))
  ]

  -- a text that lacks the byte is not some bytes, this one and more
  pub lacking_text_is_not_cut : (text front back : List ℕ) → Lacks b text → text ≡ front ++ b ∷ back → ⊥
  lacking_text_is_not_cut [] [] back lacks same = cc same
  lacking_text_is_not_cut [] (c ∷ front) back lacks same = cc same
  lacking_text_is_not_cut (c ∷ text) [] back lacks same = head_is_another c text lacks (same_head_and_tail c b text back same).0
  lacking_text_is_not_cut (c ∷ text) (d ∷ front) back lacks same =
      lacking_text_is_not_cut text front back (head_and_rest_lack c text lacks).1
      (same_head_and_tail c d text (front ++ b ∷ back) same).1

  -- a text is cut at its first such byte in only one way
  pub one_cut : (front other back more : List ℕ) → Lacks b front → Lacks b other → front ++ b ∷ back ≡ other ++ b ∷ more
      → (front ≡ other) × (back ≡ more)
  one_cut [] [] back more lacks also same = (refl, (same_head_and_tail b b back more same).1)
  one_cut [] (d ∷ other) back more lacks also same =
      absurd (head_is_another d other also (sym (same_head_and_tail b d back (other ++ b ∷ more) same).0))
  one_cut (c ∷ front) [] back more lacks also same =
      absurd (head_is_another c front lacks (same_head_and_tail c b (front ++ b ∷ back) more same).0)
  one_cut (c ∷ front) (d ∷ other) back more lacks also same =
      let ends = same_head_and_tail c d (front ++ b ∷ back) (other ++ b ∷ more) same in
      let rest = one_cut front other back more (head_and_rest_lack c front lacks).1 (head_and_rest_lack d other also).1 ends.1 in
      (same_cons c d front other ends.0 rest.0, rest.1)
