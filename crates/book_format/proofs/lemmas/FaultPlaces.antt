-- Readings whose fault says in which account it is, or that it is in none: they give the same value, and follow the same demands.
use Rattle.std.proofs.Common.{◌≡◌, ℕ, List, [], ◌∷◌, true, false, Option, Some, None, Ok, Result, Err, Bool, refl, ap, ◌∙◌}
use Rattle.book_format.specs.inner.Books.{in_account, at_top}
use Rattle.book_format.specs.FirstFault.{placed}
use Rattle.book_format.specs.Demands.{Demand}
use Rattle.book_format.specs.inner.Steps.{◌>>=◌, pass_or}
use Rattle.book_format.specs.declared.fault.BookFault.{BookFault}
use Rattle.book_format.specs.declared.fault.BookWhy.{BookWhy}
use Rattle.book_format.proofs.lemmas.Demands.{judged, FollowsDemands}

-- a value that is read in an account is also read if no account is named with the fault
pub in_account_keeps_value : {A : Type 0} (index : ℕ) (r : Result A BookWhy) (x : A) → in_account index r ≡ Ok x → r ≡ Ok x
in_account_keeps_value index (Ok y) x h = cc h
in_account_keeps_value index (Err why) x h = absurd (cc h)

-- a value that is read at the top is also read if nothing is said of an account
pub at_top_keeps_value : {A : Type 0} (r : Result A BookWhy) (x : A) → at_top r ≡ Ok x → r ≡ Ok x
at_top_keeps_value (Ok y) x h = cc h
at_top_keeps_value (Err why) x h = absurd (cc h)

-- a result whose fault is in this account, or in none
abbrev pub located : {A : Type 0} → (place : Option ℕ) → Result A BookWhy → Result A BookFault
located place (Ok x) = Ok x
located place (Err why) = Err (record { why = why; account = place })

-- demands with a place are judged as without it, and the fault has the place
pub judged-placed : (place : Option ℕ) (demands : List (Demand BookWhy)) → judged (placed place demands) ≡ located place (judged demands)
judged-placed place [] = refl
judged-placed place (demand ∷ demands) = step demand.met demand.fault (judged-placed place demands)
  where
    step : (test : Bool) (why : BookWhy) → judged (placed place demands) ≡ located place (judged demands)
        → (pass_or test (record { why = why; account = place }) >>= λ u. judged (placed place demands))
        ≡ located place (pass_or test why >>= λ u. judged demands)
    step true why h = h
    step false why h = refl

-- if a reading follows demands, then with its fault placed in an account it follows the demands placed there
pub in_account_follows : {A : Type 0} (index : ℕ) (demands : List (Demand BookWhy)) (r : Result A BookWhy) → FollowsDemands demands r
    → FollowsDemands (placed (Some index) demands) (in_account index r)
in_account_follows index demands (Ok x) h = judged-placed (Some index) demands ∙ ap (located (Some index)) h
in_account_follows index demands (Err why) h = judged-placed (Some index) demands ∙ ap (located (Some index)) h

-- if a reading follows demands, then with its fault placed in no account it follows the demands placed in none
pub at_top_follows : {A : Type 0} (demands : List (Demand BookWhy)) (r : Result A BookWhy) → FollowsDemands demands r
    → FollowsDemands (placed None demands) (at_top r)
at_top_follows demands (Ok x) h = judged-placed None demands ∙ ap (located None) h
at_top_follows demands (Err why) h = judged-placed None demands ∙ ap (located None) h
