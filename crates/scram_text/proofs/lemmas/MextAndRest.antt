-- Messages that may begin with a mandatory extension.
use Rattle.std.proofs.Common.{◌≡◌, inl, inr, ℕ, suc, ◌+◌, ◌-◌, ◌≤◌, true, false, List, [], ◌∷◌, ◌++◌, length, replicate, refl, sym, ◌∙◌, ap, arith}
use Rattle.std.proofs.Common.{subst, append-nil}
use Rattle.std.specs.Prelude.{codes, IfSome}
use Rattle.std.specs.List.{AllByRecursion}
use Rattle.std.specs.declared.option.Option.{Option}
use Rattle.std.specs.declared.option.Option.TheVariants.{None, Some}
use Rattle.std.proofs.lemmas.Bool.{cases_Bool}
use Rattle.std.specs.Str.{byte}
use Rattle.scram_text.specs.Name.{LacksComma}
use Rattle.scram_text.specs.Parts.{is_named, mext_parts, IsValue, IsAttrVal}
use Rattle.scram_text.specs.Faults.{fault, IsFirstMisfit, IsPartFault, places, first_of, places_with_mext}
use Rattle.scram_text.specs.inner.Pieces.{IsMextAndRest, IsMextMisfit}
use Rattle.scram_text.specs.declared.fault.TextFault.{TextFault}
use Rattle.scram_text.specs.declared.fault.TextWhy.{TextWhy}
use Rattle.scram_text.specs.declared.fault.TextWhy.TheVariants.{Mandatory, Extension}
use Rattle.scram_text.proofs.lemmas.Parts.{unfit_part_is_misfit, fitting_part_keeps_misfit, equal_index_keeps_misfit}
use Rattle.scram_text.proofs.lemmas.Places.{AllFit, AllFit-cons, first_part_fits, places_unfold}

-- the places of one more part, with one more fixed place before them, are this place and the others
pub places-cons : (place : TextWhy) (front back : List TextWhy) (n : ℕ) → places (place ∷ front) back (suc n) ≡ place ∷ places front back n
places-cons place front back n =
    let same : suc n - (suc (length front) + length back) ≡ n - (length front + length back) = omega arith in rw same refl

-- the places of parts, if only extensions follow the fixed ones, are the fixed places and one Extension for each extension
pub front_places_unfold : (front : List TextWhy) (n middle : ℕ) → n ≡ length front + middle
    → places front [] n ≡ front ++ replicate middle Extension
front_places_unfold front n middle count =
    places_unfold front [] n middle (omega (arith, count)) ∙ rw (append-nil (replicate middle Extension)) refl

-- a mandatory extension whose value does not fit is a misfit
pub unfit_mext_is_misfit : (k : ℕ) (mext : List ℕ) (rest : List (List ℕ)) → is_named (byte "m") mext ≡ true
    → (IsAttrVal (byte "m") IsValue mext → ⊥)
    → IsMextMisfit k (mext ∷ rest) (fault k Mandatory)
unfit_mext_is_misfit k mext rest headed no_fit = λ most later.
    rw (headed, places-cons Mandatory later [] (length rest)) (unfit_part_is_misfit most k Mandatory _ mext rest no_fit)

-- a misfit after the mandatory extension, if there is one, is one of all parts
pub rest_misfit_is_of_all_parts : (most k j : ℕ) (later : List TextWhy) (pieces rest : List (List ℕ)) (mext : Option (List ℕ))
    (f : TextFault)
    → IsMextAndRest pieces rest mext → j ≡ k + length (mext_parts mext) → IsFirstMisfit most (places later [] (length rest)) j rest f
    → IsFirstMisfit most (places (places_with_mext pieces later) [] (length pieces)) k pieces f
rest_misfit_is_of_all_parts most k j later pieces rest None f marked at misfit =
    let headed : is_named (byte "m") (first_of rest) ≡ false = rw marked.cut at marked.headed in
    subst (λ (ps : List (List ℕ)). IsFirstMisfit most (places (places_with_mext ps later) [] (length ps)) k ps f) (sym marked.cut)
    (rw headed (equal_index_keeps_misfit most j k _ rest f (omega (arith, at)) misfit))
rest_misfit_is_of_all_parts most k j later pieces rest (Some value) f marked at misfit =
    subst (λ (ps : List (List ℕ)). IsFirstMisfit most (places (places_with_mext ps later) [] (length ps)) k ps f) (sym marked.cut)
    (rw (places-cons Mandatory later [] (length rest))
    (fitting_part_keeps_misfit most k Mandatory _ (codes "m=" ++ value) rest f (value, refl, marked.value)
    (equal_index_keeps_misfit most j (k + 1) _ rest f (omega (arith, at)) misfit)))

-- the parts after the mandatory extension, if there is one, that fit their places make all parts fit theirs
pub mext_and_rest_fit : (most : ℕ) (later : List TextWhy) (pieces rest : List (List ℕ)) (mext : Option (List ℕ))
    → IsMextAndRest pieces rest mext → AllFit most (places later [] (length rest)) rest
    → AllFit most (places (places_with_mext pieces later) [] (length pieces)) pieces
mext_and_rest_fit most later pieces rest None marked fit =
    let headed : is_named (byte "m") (first_of rest) ≡ false = rw marked.cut at marked.headed in
    subst (λ (ps : List (List ℕ)). AllFit most (places (places_with_mext ps later) [] (length ps)) ps) (sym marked.cut) (rw headed fit)
mext_and_rest_fit most later pieces rest (Some value) marked fit =
    subst (λ (ps : List (List ℕ)). AllFit most (places (places_with_mext ps later) [] (length ps)) ps) (sym marked.cut)
    (rw (places-cons Mandatory later [] (length rest))
    (AllFit-cons most Mandatory _ (codes "m=" ++ value) rest (value, refl, marked.value) fit))

-- a message has as many fixed places, and as many parts, as come after its mandatory extension, and one more if it has one
pub mext_and_rest_lengths_add_up : (later : List TextWhy) (pieces rest : List (List ℕ)) (mext : Option (List ℕ))
    → IsMextAndRest pieces rest mext
    → (length (places_with_mext pieces later) ≡ length (mext_parts mext) + length later)
    × (length pieces ≡ length (mext_parts mext) + length rest)
mext_and_rest_lengths_add_up later pieces rest None marked = (rw marked.headed (omega arith), rw marked.cut (omega arith))
mext_and_rest_lengths_add_up later pieces rest (Some value) marked = (rw marked.headed (omega arith), rw marked.cut (omega arith))

-- a misfit after the mandatory extension, if there is one, is a fault of the parts
pub rest_misfit_is_part_fault : (most : ℕ) (later : List TextWhy) (pieces rest : List (List ℕ)) (mext : Option (List ℕ)) (f : TextFault)
    → IsMextAndRest pieces rest mext → length later ≤ length rest
    → IsFirstMisfit most (places later [] (length rest)) (length (mext_parts mext)) rest f
    → IsPartFault most (places_with_mext pieces later) [] pieces f
rest_misfit_is_part_fault most later pieces rest mext f marked enough misfit =
    let lengths = mext_and_rest_lengths_add_up later pieces rest mext marked in
    inr (
      omega (arith, lengths.0, lengths.1, enough),
      rest_misfit_is_of_all_parts most 0 (length (mext_parts mext)) later pieces rest mext f marked (omega arith) misfit,
    )

-- an optional mandatory extension and then parts, the first of which is not named `m`, are this extension and the rest
pub joined_are_mext_and_rest : (mext : Option (List ℕ)) (piece : List ℕ) (rest : List (List ℕ)) → is_named (byte "m") piece ≡ false
    → IfSome mext IsValue
    → IsMextAndRest (mext_parts mext ++ piece ∷ rest) (piece ∷ rest) mext
joined_are_mext_and_rest None piece rest headed value = record { cut = refl; value = value; headed = headed }
joined_are_mext_and_rest (Some v) piece rest headed value = record { cut = refl; value = value; headed = refl }

-- an optional mandatory extension and then parts have no comma if none of them has one
pub mext_and_rest_lack_comma : (mext : Option (List ℕ)) (pieces : List (List ℕ)) → IfSome mext IsValue → AllByRecursion LacksComma pieces
    → AllByRecursion LacksComma (mext_parts mext ++ pieces)
mext_and_rest_lack_comma None pieces value lack = lack
mext_and_rest_lack_comma (Some v) pieces value lack = (value.no_comma, lack)

-- a message that may begin with a mandatory extension has a part
pub mext_and_rest_are_nonempty : (mext : Option (List ℕ)) (piece : List ℕ) (rest : List (List ℕ))
    → 1 ≤ length (mext_parts mext ++ piece ∷ rest)
mext_and_rest_are_nonempty None piece rest = omega arith
mext_and_rest_are_nonempty (Some v) piece rest = omega arith

-- parts are a mandatory extension and others in only one way, if the first of the others is not one too
pub one_mext_and_rest : (one other : Option (List ℕ)) (a b : List ℕ) (x y : List (List ℕ)) → is_named (byte "m") a ≡ false
    → is_named (byte "m") b ≡ false
    → mext_parts one ++ a ∷ x ≡ mext_parts other ++ b ∷ y → (one ≡ other) × (a ∷ x ≡ b ∷ y)
one_mext_and_rest None None a b x y ha hb same = (refl, same)
one_mext_and_rest None (Some v) a b x y ha hb same =
    let front : a ≡ codes "m=" ++ v = cc same in let headed = rw front at ha in absurd (cc headed)
one_mext_and_rest (Some v) None a b x y ha hb same =
    let front : b ≡ codes "m=" ++ v = cc same in let headed = rw front at hb in absurd (cc headed)
one_mext_and_rest (Some v) (Some w) a b x y ha hb same =
    let values : v ≡ w = cc same in let rest : a ∷ x ≡ b ∷ y = cc same in (ap Some values, rest)

-- parts that begin with a mandatory extension, with enough after it, are that extension and the others, which fit their places
headed_has_mext_and_rest : (most least : ℕ) (later : List TextWhy) (pieces : List (List ℕ)) → length later ≡ least
    → is_named (byte "m") (first_of pieces) ≡ true
    → length (Mandatory ∷ later) ≤ length pieces → AllFit most (places (Mandatory ∷ later) [] (length pieces)) pieces
    → (mext : Option (List ℕ)) × (rest : List (List ℕ)) × IsMextAndRest pieces rest mext × (least ≤ length rest)
    × AllFit most (places later [] (length rest)) rest
headed_has_mext_and_rest most least later [] count headed enough fit = absurd (omega (arith, enough))
headed_has_mext_and_rest most least later (part ∷ rest) count headed enough fit =
    let placed = subst (λ (ps : List TextWhy). AllFit most ps (part ∷ rest)) (places-cons Mandatory later [] (length rest)) fit in
    let each = first_part_fits most Mandatory _ part rest placed in
    let (value, spelled, is) = each.0 in (
      Some value,
      rest,
      record { cut = ap (λ (x : List ℕ). x ∷ rest) spelled; value = is; headed = headed },
      omega (arith, enough, count),
      each.1,
    )

-- parts are a mandatory extension, if they begin with one, and then enough others
pub some_mext_and_rest : (most least : ℕ) (later : List TextWhy) (pieces : List (List ℕ)) → length later ≡ least
    → length (places_with_mext pieces later) ≤ length pieces
    → AllFit most (places (places_with_mext pieces later) [] (length pieces)) pieces
    → (mext : Option (List ℕ)) × (rest : List (List ℕ)) × IsMextAndRest pieces rest mext × (least ≤ length rest)
    × AllFit most (places later [] (length rest)) rest
some_mext_and_rest most least later pieces count enough fit = elim (cases_Bool (is_named (byte "m") (first_of pieces))) [
  | inl hit ↦ headed_has_mext_and_rest most least later pieces count hit (rw hit at enough) (rw hit at fit)
  | inr miss ↦ (None, pieces, record { cut = refl; value = tt; headed = miss }, (rw (miss, count) at enough), (rw miss at fit))
]
