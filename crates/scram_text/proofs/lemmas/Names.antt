-- A name's spelling is read in only one way, from the left, and is a saslname.
use Rattle.std.proofs.Common.{◌≡◌, ◌≢◌, inl, inr, ℕ, zero, suc, ◌*◌, ◌≤◌, List, [], ◌∷◌, ◌++◌, length, refl, sym, ◌∙◌, ap, subst, arith, append_assoc}
use Rattle.std.proofs.Common.{true, not}
use Rattle.std.specs.Prelude.{codes, ◌==◌, if◌then◌else◌}
use Rattle.std.proofs.lemmas.Bool.Decides.{eqb_tells}
use Rattle.std.proofs.lemmas.List.{append_cancel_left}
use Rattle.std.proofs.lemmas.List.Folds.{list_all-append}
use Rattle.std.proofs.lemmas.Bool.{ne_eqb}
use Rattle.std.specs.Str.{byte}
use Rattle.scram_text.specs.Class.{is_comma}
use Rattle.scram_text.specs.Name.{IsSaslName, LacksComma, byte_spelling, name_spelling, is_escaped}
use Rattle.scram_text.proofs.lemmas.ListEnds.{same_cons}

-- what is true of `=2C` for a comma, of `=3D` for an equals sign and otherwise of the byte itself is true of the byte's spelling
pub byte_spelling_by_cases : (P : List ℕ → Type 0) (c : ℕ) → (c ≡ byte "," → P (codes "=2C")) → (c ≡ byte "=" → P (codes "=3D"))
    → (c ≢ byte "," → c ≢ byte "=" → P (c ∷ [])) → P (byte_spelling c)
byte_spelling_by_cases P c comma equals other = elim (eqb_tells c 44) [
  | inl is ↦ rw is.0 (comma is.1)
  | inr no_comma ↦ elim (eqb_tells c 61) [
    | inl is ↦ rw (no_comma.0, is.0) (equals is.1)
    | inr neither ↦ rw (no_comma.0, neither.0) (other no_comma.1 neither.1)
  ]
]

-- the bytes that a saslname may spell, if k bytes of an escape were read: the byte after `=` says which is meant
pub unescaped_from : ℕ → List ℕ → List ℕ
unescaped_from k [] = []
unescaped_from zero (c ∷ text) = if c == byte "=" then unescaped_from 1 text else c ∷ unescaped_from 0 text
unescaped_from (suc zero) (c ∷ text) = (if c == 50 then 44 else 61) ∷ unescaped_from 2 text
unescaped_from (suc (suc k)) (c ∷ text) = unescaped_from 0 text

-- a text that begins with the spelling of a byte is unescaped to this byte and the rest, unescaped
unescaped_from-byte_spelling : (c : ℕ) (rest : List ℕ) → unescaped_from 0 (byte_spelling c ++ rest) ≡ c ∷ unescaped_from 0 rest
unfolding unescaped_from
unescaped_from-byte_spelling c rest =
    byte_spelling_by_cases (λ s. unescaped_from 0 (s ++ rest) ≡ c ∷ unescaped_from 0 rest) c (λ comma. rw comma refl)
    (λ equals. rw equals refl) (λ _ other. rw (ne_eqb c 61 other) refl)

-- the spelling of a name is unescaped to the name
pub unescaped_from-spelling : (name : List ℕ) → unescaped_from 0 (name_spelling name) ≡ name
unfolding unescaped_from
unescaped_from-spelling [] = refl
unescaped_from-spelling (c ∷ name) =
    unescaped_from-byte_spelling c (name_spelling name) ∙ ap (λ (n : List ℕ). c ∷ n) (unescaped_from-spelling name)

-- two names with the same spelling are the same
pub one_name_per_spelling : (one other : List ℕ) → name_spelling one ≡ name_spelling other → one ≡ other
one_name_per_spelling one other e = sym (unescaped_from-spelling one) ∙ ap (unescaped_from 0) e ∙ unescaped_from-spelling other

-- if spellings of two bytes begin the same text, the bytes are the same, and so is what follows
one_byte_per_spelling : (b c : ℕ) (x y : List ℕ) → byte_spelling b ++ x ≡ byte_spelling c ++ y → (b ≡ c) × (x ≡ y)
one_byte_per_spelling b c x y e =
    let read : b ∷ unescaped_from 0 x ≡ c ∷ unescaped_from 0 y =
    sym (unescaped_from-byte_spelling b x) ∙ ap (unescaped_from 0) e ∙ unescaped_from-byte_spelling c y in
    let same : b ≡ c = cc read in
    (same, append_cancel_left (byte_spelling c) x y (subst (λ (d : ℕ). byte_spelling d ++ x ≡ byte_spelling c ++ y) same e))

-- the spelling of a byte is not empty
pub byte_spelling_is_nonempty : (b : ℕ) (x : List ℕ) → byte_spelling b ++ x ≡ [] → ⊥
byte_spelling_is_nonempty b x e =
    byte_spelling_by_cases (λ s. s ++ x ≡ [] → ⊥) b (λ _ none. cc none) (λ _ none. cc none) (λ _ _ none. cc none) e

-- if the spelling of the first bytes was read, the rest spells the others
pub rest_spells_rest : (front rest name : List ℕ) → name_spelling front ++ rest ≡ name_spelling name
    → (more : List ℕ) × (name ≡ front ++ more) × (rest ≡ name_spelling more)
rest_spells_rest [] rest name e = (name, refl, e)
rest_spells_rest (b ∷ front) rest [] e = absurd (byte_spelling_is_nonempty b (name_spelling front ++ rest) (rw append_assoc at e))
rest_spells_rest (b ∷ front) rest (c ∷ name) e =
    let first = one_byte_per_spelling b c (name_spelling front ++ rest) (name_spelling name) (rw append_assoc at e) in
    let more = rest_spells_rest front rest name first.1 in
    (more.0, same_cons c b name (front ++ more.0) (sym first.0) more.1, more.2)

-- the spelling of a byte has no comma
byte_spelling_lacks_comma : (c : ℕ) → LacksComma (byte_spelling c)
byte_spelling_lacks_comma c = byte_spelling_by_cases LacksComma c (λ _. refl) (λ _. refl) (λ no_comma _. rw (ne_eqb c 44 no_comma) refl)

-- the spelling of a name has no comma
spelling_lacks_comma : (name : List ℕ) → LacksComma (name_spelling name)
spelling_lacks_comma [] = refl
spelling_lacks_comma (c ∷ name) =
    rw (
      list_all-append (λ b. not (is_comma b)) (byte_spelling c) (name_spelling name),
      byte_spelling_lacks_comma c,
      spelling_lacks_comma name,
    ) refl

-- if each `=` of a text begins an escape, so does each with the spelling of a byte before the text
byte_spelling_keeps_escaped : (c : ℕ) (rest : List ℕ) → is_escaped rest ≡ true → is_escaped (byte_spelling c ++ rest) ≡ true
byte_spelling_keeps_escaped c rest is =
    byte_spelling_by_cases (λ s. is_escaped (s ++ rest) ≡ true) c (λ _. is) (λ _. is) (λ _ no_equals. rw (ne_eqb c 61 no_equals) is)

-- each `=` of a name's spelling begins an escape
spelling_is_escaped : (name : List ℕ) → is_escaped (name_spelling name) ≡ true
spelling_is_escaped [] = refl
spelling_is_escaped (c ∷ name) = byte_spelling_keeps_escaped c (name_spelling name) (spelling_is_escaped name)

-- a name that is not empty has a spelling that is not
spelling_is_nonempty : (name : List ℕ) → 1 ≤ length name → 1 ≤ length (name_spelling name)
spelling_is_nonempty [] some = absurd (omega (arith, some))
spelling_is_nonempty (c ∷ name) some =
    byte_spelling_by_cases (λ s. 1 ≤ length (s ++ name_spelling name)) c (λ _. omega arith) (λ _. omega arith) (λ _ _. omega arith)

-- the spelling of a name is a saslname
pub spelling_is_saslname : (name : List ℕ) → 1 ≤ length name → IsSaslName (name_spelling name)
spelling_is_saslname name some = record {
  at_least = spelling_is_nonempty name some;
  no_comma = spelling_lacks_comma name;
  escaped = spelling_is_escaped name;
}

-- a spelling is at most three times as long as its name
pub length-spelling : (name : List ℕ) → length (name_spelling name) ≤ 3 * length name
length-spelling [] = omega arith
length-spelling (c ∷ name) =
    byte_spelling_by_cases (λ s. length (s ++ name_spelling name) ≤ 3 * length (c ∷ name)) c (λ _. omega (arith, length-spelling name))
    (λ _. omega (arith, length-spelling name)) (λ _ _. omega (arith, length-spelling name))
