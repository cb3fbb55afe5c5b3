-- Lists by their first elements, and by their last; and lists appended.
use Rattle.std.proofs.Common.{◌≡◌, List, [], ◌∷◌, ◌++◌, refl, ap}
use Rattle.std.specs.List.{AllByRecursion}

-- lists that are the same have the same first element, and the same elements after it
pub same_head_and_tail : {A : Type 0} (a b : A) (x y : List A) → a ∷ x ≡ b ∷ y → (a ≡ b) × (x ≡ y)
same_head_and_tail a b x y e = (cc, cc)

-- lists with the same first element and the same elements after it are the same
pub same_cons : {A : Type 0} (a b : A) (x y : List A) → a ≡ b → x ≡ y → a ∷ x ≡ b ∷ y
same_cons a b x y head tail = cc

-- what has a last element is not empty
pub empty_has_no_last : {A : Type 0} (xs : List A) (x : A) → xs ++ x ∷ [] ≡ [] → ⊥
empty_has_no_last [] x e = cc e
empty_has_no_last (y ∷ xs) x e = cc e

-- a list that is not empty has a last element
pub nonempty_has_last : {A : Type 0} (a : A) (xs : List A) → (before : List A) × (x : A) × (a ∷ xs ≡ before ++ x ∷ [])
nonempty_has_last a [] = ([], a, refl)
nonempty_has_last a (b ∷ xs) = let more = nonempty_has_last b xs in (a ∷ more.0, more.1, ap (λ l. a ∷ l) more.2)

-- what is true of each element of two lists is true of each element of both appended
pub appended_lists_keep_all : {A : Type 0} (P : A → Type 0) (before after : List A) → AllByRecursion P before → AllByRecursion P after
    → AllByRecursion P (before ++ after)
appended_lists_keep_all P [] after h k = k
appended_lists_keep_all P (a ∷ before) after h k = (h.0, appended_lists_keep_all P before after h.1 k)
