-- How a list of names is read, depending on whether all are texts and on how many there are.
use Rattle.std.proofs.Common.{◌≡◌, ◌<◌, ◌≤◌, nat_le, le-leb, ℕ, List, [], ◌∷◌, ◌++◌, length, true, false, Result, Ok, Err, refl, append_assoc, arith}
use Rattle.std.proofs.lemmas.Bool.Decides.{nat_tests}
use Rattle.toml.specs.Data.{Items}
use Rattle.toml.specs.View.{items_view}
use Rattle.toml.specs.declared.value.Value.{Value}
use Rattle.book_format.specs.Account.{max_names}
use Rattle.book_format.specs.Names.{are_texts, item_count}
use Rattle.book_format.specs.inner.Values.{names_in, names_of}
use Rattle.book_format.specs.inner.Steps.{◌>>=◌}
use Rattle.book_format.specs.declared.fault.BookWhy.TheVariants.{Key, Name}

-- the view of a list of values has as many items as the list has
pub item_count-view : (vs : List Value) → item_count (items_view vs) ≡ length vs
item_count-view [] = refl
item_count-view (v ∷ vs) =
    let rest = item_count-view vs in
    omega (arith, rest)

-- putting a value before what is left to read, and others before both, is putting it at the end of those others
pub value_moves_to_front : {A E : Type 0} (front : List A) (x : A) (rest : Result (List A) E)
    → ((rest >>= λ xs. Ok (x ∷ xs)) >>= λ xs. Ok (front ++ xs)) ≡ (rest >>= λ xs. Ok ((front ++ x ∷ []) ++ xs))
value_moves_to_front front x (Ok xs) = rw append_assoc refl
value_moves_to_front front x (Err e) = refl

-- a list in which not all are texts is refused for its key
pub untyped_names_are_refused : (list : Items) → are_texts list ≡ false → names_of list ≡ Err Key
unfolding names_of
untyped_names_are_refused list untyped = rw untyped refl

-- a list of more texts than an account may have names is refused for its names
pub many_names_are_refused : (list : Items) → are_texts list ≡ true → max_names < item_count list → names_of list ≡ Err Name
unfolding names_of
many_names_are_refused list typed many = rw (typed, too_many (item_count list) many) refl
  where
    too_many : (n : ℕ) → max_names < n → nat_le n max_names ≡ false
    too_many n h = grind (arith, nat_tests)

-- a list of at most as many texts as an account may have names is read name by name
pub few_names_are_read : (list : Items) → are_texts list ≡ true → item_count list ≤ max_names → names_of list ≡ names_in list
unfolding names_of
few_names_are_read list typed few = rw (typed, le-leb (item_count list) max_names few) refl
