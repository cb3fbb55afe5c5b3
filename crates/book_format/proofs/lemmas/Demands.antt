-- How a reading relates to a list of demands: it gives a value if all are met, and else the fault of the first that is not.
use Rattle.std.proofs.Common.{◌≡◌, ◌++◌, List, [], ◌∷◌, Bool, true, false, Option, Some, None, ok_or, Result, Ok, Err, refl, ap, ◌∙◌, inl, inr}
use Rattle.std.specs.Prelude.{IsTrue, is_some}
use Rattle.std.specs.List.{AllByRecursion}
use Rattle.std.proofs.lemmas.Bool.{cases_Bool, both_ways}
use Rattle.scram_text.proofs.lemmas.FirstUnmet.{IsFound, found_is_first, met_rows_have_no_first_unmet, one_first_unmet}
use Rattle.book_format.specs.Demands.{Demand, must, required, HasFirstFault}
use Rattle.book_format.specs.inner.Steps.{◌>>=◌, pass_or}
use Rattle.book_format.proofs.lemmas.Steps.{same_err_has_same_fault}

-- Ok if all demands are met, else the fault of the first that is not
abbrev pub judged : {F : Type 0} → List (Demand F) → Result (Unit {0}) F
judged [] = Ok tt
judged (demand ∷ demands) = pass_or demand.met demand.fault >>= λ u. judged demands

-- a result without its value
abbrev pub without_value : {A F : Type 0} → Result A F → Result (Unit {0}) F
without_value (Ok x) = Ok tt
without_value (Err fault) = Err fault

-- a reading gives a value if all demands are met, else the fault of the first that is not
abbrev pub FollowsDemands : {A F : Type 0} → List (Demand F) → Result A F → Type 0
FollowsDemands demands read = judged demands ≡ without_value read

-- Steps of a reading.

-- a step before two lists of demands comes before the first of them
step_is_judged_first : {F : Type 0} (first : Result (Unit {0}) F) (demands others : List (Demand F))
    → judged (demands ++ others) ≡ (judged demands >>= λ u. judged others)
    → (first >>= λ u. judged (demands ++ others)) ≡ ((first >>= λ u. judged demands) >>= λ u. judged others)
step_is_judged_first (Ok u) demands others h = h
step_is_judged_first (Err fault) demands others h = refl

-- of two lists of demands, the second is judged if all of the first are met
judged-append : {F : Type 0} (demands others : List (Demand F)) → judged (demands ++ others) ≡ (judged demands >>= λ u. judged others)
judged-append [] others = refl
judged-append (demand ∷ demands) others =
    step_is_judged_first (pass_or demand.met demand.fault) demands others (judged-append demands others)

-- a step and the next follow two lists of demands, if each follows its own
pub both_follow : {A B F : Type 0} (demands others : List (Demand F)) (first : Result A F) (next : A → Result B F)
    → FollowsDemands demands first → ((x : A) → first ≡ Ok x → FollowsDemands others (next x))
    → FollowsDemands (demands ++ others) (first >>= next)
both_follow demands others (Ok x) next h rest =
    judged-append demands others ∙ ap (λ r. r >>= λ u. judged others) h ∙ rest x refl
both_follow demands others (Err fault) next h rest = judged-append demands others ∙ ap (λ r. r >>= λ u. judged others) h

-- a test and the steps after it follow a demand and those after it
pub test_follows : {B F : Type 0} (test : Bool) (fault : F) (demands : List (Demand F)) (next : Unit {0} → Result B F)
    → (test ≡ true → FollowsDemands demands (next tt)) → FollowsDemands (must test fault ∷ demands) (pass_or test fault >>= next)
test_follows true fault demands next h = h refl
test_follows false fault demands next h = refl

-- a value that must be there, and the steps on it, follow the demand for it and those on it
pub required_follows : {A B F : Type 0} (fault : F) (demands : A → List (Demand F)) (o : Option A) (next : A → Result B F)
    → ((x : A) → FollowsDemands (demands x) (next x)) → FollowsDemands (required fault demands o) (ok_or o fault >>= next)
required_follows fault demands None next h = refl
required_follows fault demands (Some x) next h = h x

-- a value that must be there follows the demand for it
pub presence_follows : {A F : Type 0} (fault : F) (o : Option A) → FollowsDemands (must (is_some o) fault ∷ []) (ok_or o fault)
presence_follows fault None = refl
presence_follows fault (Some x) = refl

-- what is made of a value does not change whether there is a fault, nor which
pub making_keeps_faults : {A B F : Type 0} (read : Result A F) (make : A → B)
    → without_value read ≡ without_value (read >>= λ x. Ok (make x))
making_keeps_faults (Ok x) make = refl
making_keeps_faults (Err fault) make = refl

-- The first fault.

-- a demand that is not met, with its fault
demand_is_unmet : {F : Type 0} (test : Bool) (own fault : F) → test ≡ false → ◌≡◌ {A = Result (Unit {0}) F} (Err own) (Err fault)
    → must test own ≡ must false fault
demand_is_unmet test own fault fails same = rw (fails, same_err_has_same_fault own fault same) refl

-- if demands are judged to have a fault, the first that is not met is found from the top, and it has this fault
first_unmet_is_found : {F : Type 0} (demands : List (Demand F)) (fault : F) → judged demands ≡ Err fault
    → IsFound (λ demand. IsTrue demand.met) demands (must false fault)
first_unmet_is_found [] fault h = absurd (cc h)
first_unmet_is_found (demand ∷ demands) fault h = elim (cases_Bool demand.met) [
  | inl met ↦ inr (met, first_unmet_is_found demands fault (rw met at h))
  | inr fails ↦ inl (demand_is_unmet demand.met demand.fault fault fails (rw fails at h), λ met. both_ways demand.met fails met)
]

-- if demands are judged to have a fault, it is that of the first that is not met
judged_fault_is_first : {F : Type 0} (demands : List (Demand F)) (fault : F) → judged demands ≡ Err fault → HasFirstFault demands fault
judged_fault_is_first demands fault h =
    found_is_first (λ demand. IsTrue demand.met) demands (must false fault) (first_unmet_is_found demands fault h)

-- if demands are judged to have no fault, all are met
demands_are_met : {F : Type 0} (demands : List (Demand F)) → judged demands ≡ Ok tt → AllByRecursion (λ demand. IsTrue demand.met) demands
demands_are_met [] h = tt
demands_are_met (demand ∷ demands) h = elim (cases_Bool demand.met) [
  | inl met ↦ (met, demands_are_met demands (rw met at h))
  | inr fails ↦
      let none = rw fails at h in absurd (cc none)
]

-- the fault of a reading that follows demands is that of the first that is not met
pub read_fault_is_first : {A F : Type 0} (demands : List (Demand F)) (fault : F) (read : Result A F) → FollowsDemands demands read
    → read ≡ Err fault → HasFirstFault demands fault
read_fault_is_first demands fault read follows h = judged_fault_is_first demands fault (follows ∙ ap without_value h)

-- the fault of the first demand that is not met is that of a reading that follows the demands
pub first_fault_is_read : {A F : Type 0} (demands : List (Demand F)) (fault : F) (read : Result A F) → FollowsDemands demands read
    → HasFirstFault demands fault → read ≡ Err fault
first_fault_is_read demands fault (Ok x) follows first =
    absurd (met_rows_have_no_first_unmet (λ demand. IsTrue demand.met) demands (must false fault) (demands_are_met demands follows) first)
first_fault_is_read demands fault (Err own) follows first =
    ap (λ demand. Err demand.fault)
    (one_first_unmet (λ demand. IsTrue demand.met) demands (must false own) (must false fault) (judged_fault_is_first demands own follows)
    first)
