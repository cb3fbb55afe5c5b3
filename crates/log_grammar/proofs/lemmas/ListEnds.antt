-- Lists with a last element, and their elements in general.
use Rattle.std.proofs.Common.{◌≡◌, ◌⊎◌, inl, inr, ℕ, zero, suc, ◌+◌, ◌<◌, List, [], ◌∷◌, ◌++◌, length, take, refl, sym, ◌∙◌, ap, arith}
use Rattle.std.proofs.Common.{append_assoc, subst, append-nil}
use Rattle.std.specs.List.{AllByRecursion, AllZip}
use Rattle.std.proofs.Math.Seq.{take-append-add}
use Rattle.std.proofs.lemmas.List.{same_from_push}
use Rattle.scram_text.proofs.lemmas.ListEnds.{nonempty_has_last}

-- an empty list has no element
pub empty_has_no_element : {A : Type 0} (before : List A) (x : A) (rest : List A) → [] ≡ before ++ x ∷ rest → ⊥
empty_has_no_element [] x rest e = cc e
empty_has_no_element (y ∷ before) x rest e = cc e

-- an element of a list with a last element is the last one, or stands before it
pub element_is_last_or_earlier : {A : Type 0} (log : List A) (x : A) (before : List A) (y : A) (rest : List A)
    → log ++ x ∷ [] ≡ before ++ y ∷ rest → ((log ≡ before) × (x ≡ y)) ⊎ ((less : List A) × (log ≡ before ++ y ∷ less))
element_is_last_or_earlier log x before y [] e = inl (same_from_push log before x y e)
element_is_last_or_earlier log x before y (z ∷ rest) e =
    let last = nonempty_has_last z rest in
    let moved = ap (λ l. before ++ y ∷ l) last.2 ∙ sym (append_assoc before (y ∷ last.0) (last.1 ∷ [])) in
    inr (last.0, (same_from_push log (before ++ y ∷ last.0) x last.1 (e ∙ moved)).0)

-- an element of a list stands at the same place in a longer list
pub element_stays_in_place : {A : Type 0} (log more before : List A) (y : A) (rest : List A) → log ≡ before ++ y ∷ rest
    → log ++ more ≡ before ++ y ∷ (rest ++ more)
element_stays_in_place log more before y rest e = ap (λ l. l ++ more) e ∙ append_assoc before (y ∷ rest) more

-- if a list with a last element is related to another list, that one has a last element too, and their parts are related
pub related_list_has_last : {A B : Type 0} (R : A → B → Type 0) (xs : List A) (x : A) (ys : List B) → AllZip R (xs ++ x ∷ []) ys
    → (front : List B) × (y : B) × (ys ≡ front ++ y ∷ []) × AllZip R xs front × R x y
related_list_has_last R [] x [] all = absurd all
related_list_has_last R [] x (y ∷ []) all = ([], y, refl, tt, all.0)
related_list_has_last R [] x (y ∷ z ∷ ys) all = absurd all.1
related_list_has_last R (a ∷ xs) x [] all = absurd all
related_list_has_last R (a ∷ xs) x (y ∷ ys) all =
    let (front, z, same, those, this) = related_list_has_last R xs x ys all.1 in
    (y ∷ front, z, ap (λ l. y ∷ l) same, (all.0, those), this)

-- if two pairs of lists are related, so are the lists appended
pub related_lists-append : {A B : Type 0} (R : A → B → Type 0) (xs more : List A) (ys others : List B) → AllZip R xs ys
    → AllZip R more others → AllZip R (xs ++ more) (ys ++ others)
related_lists-append R [] more [] others are also = also
related_lists-append R [] more (y ∷ ys) others are also = absurd are
related_lists-append R (x ∷ xs) more [] others are also = absurd are
related_lists-append R (x ∷ xs) more (y ∷ ys) others are also = (are.0, related_lists-append R xs more ys others are.1 also)

-- if each element is related to at most one other, each list is related to at most one list
pub one_related_list : {A B : Type 0} (R : A → B → Type 0) → ((x : A) (y z : B) → R x y → R x z → y ≡ z)
    → (xs : List A) (ys zs : List B) → AllZip R xs ys → AllZip R xs zs → ys ≡ zs
one_related_list R one [] [] [] a b = refl
one_related_list R one [] [] (z ∷ zs) a b = absurd b
one_related_list R one [] (y ∷ ys) zs a b = absurd a
one_related_list R one (x ∷ xs) [] zs a b = absurd a
one_related_list R one (x ∷ xs) (y ∷ ys) [] a b = absurd b
one_related_list R one (x ∷ xs) (y ∷ ys) (z ∷ zs) a b =
    ap (λ l. l ∷ ys) (one x y z a.0 b.0) ∙ ap (λ l. z ∷ l) (one_related_list R one xs ys zs a.1 b.1)

-- a property that the front of a list has, and that one more element at the end keeps, is true of the whole list
holds_after_front : {A : Type 0} (P : List A → Type 0) → ((xs : List A) (x : A) → P xs → P (xs ++ x ∷ [])) → (before after : List A)
    → P before → P (before ++ after)
holds_after_front P step before [] holds = subst P (sym (append-nil before)) holds
holds_after_front P step before (x ∷ after) holds =
    subst P (append_assoc before (x ∷ []) after) (holds_after_front P step (before ++ x ∷ []) after (step before x holds))

-- a property that the empty list has, and that one more element at the end keeps, is true of each list
pub holds_by_last : {A : Type 0} (P : List A → Type 0) → P [] → ((xs : List A) (x : A) → P xs → P (xs ++ x ∷ [])) → (xs : List A) → P xs
holds_by_last P none step xs = holds_after_front P step [] xs none

-- the first 0 elements of a list are none
take-zero : {A : Type 0} (xs : List A) → take 0 xs ≡ []
take-zero [] = refl
take-zero (x ∷ xs) = refl

-- the elements of a list up to a given one are those before it, and this one
pub take-append_next : {A : Type 0} (xs : List A) (x : A) (more : List A) → take (length xs + 1) (xs ++ x ∷ more) ≡ xs ++ x ∷ []
take-append_next xs x more = take-append-add xs (x ∷ more) 1 ∙ ap (λ l. xs ++ x ∷ l) (take-zero more)

-- at each index below a list's length there is an element, with that many elements before it
pub index_has_element : {A : Type 0} (xs : List A) (n : ℕ) → n < length xs
    → (before : List A) × (x : A) × (more : List A) × (xs ≡ before ++ x ∷ more) × (n ≡ length before)
index_has_element [] n less = absurd (omega (arith, less))
index_has_element (a ∷ xs) zero less = ([], a, xs, refl, refl)
index_has_element (a ∷ xs) (suc n) less =
    let (before, x, more, same, at) = index_has_element xs n (omega (arith, less)) in
    (a ∷ before, x, more, ap (λ l. a ∷ l) same, ap suc at)

-- what is true of each element of a list is true of each element of its front
pub front_keeps_all : {A : Type 0} (P : A → Type 0) (before after : List A) → AllByRecursion P (before ++ after) → AllByRecursion P before
front_keeps_all P [] after each = tt
front_keeps_all P (a ∷ before) after each = (each.0, front_keeps_all P before after each.1)

-- what is true of each element of a list is true of each element after a front of it
pub back_keeps_all : {A : Type 0} (P : A → Type 0) (before after : List A) → AllByRecursion P (before ++ after) → AllByRecursion P after
back_keeps_all P [] after each = each
back_keeps_all P (a ∷ before) after each = back_keeps_all P before after each.1

-- what is true of each element of a list is true of any single one
pub all_includes_element : {A : Type 0} (P : A → Type 0) (before : List A) (a : A) (after : List A) → AllByRecursion P (before ++ a ∷ after)
    → P a
all_includes_element P [] a after each = each.0
all_includes_element P (other ∷ before) a after each = all_includes_element P before a after each.1
