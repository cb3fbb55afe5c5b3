-- Demands on a text that is to be a book's, listed in the order in which they are judged.
use Rattle.std.specs.Prelude.{Bool, false, IsTrue, List, [], ◌∷◌, Option, Some, None, is_some}
use Rattle.scram_text.specs.FirstUnmet.{IsFirstUnmet}

-- a demand: whether it is met, and the fault if it is not
pub record Demand (F : Type 0) : Type 0 where
  pub met : Bool
  pub fault : F

-- the demand that a test passes, with this fault if it does not
abbrev pub must : {F : Type 0} → Bool → F → Demand F
must passes fault = record { met = passes; fault = fault }

-- the demands on a value if there is one, else none
abbrev pub if_there : {A F : Type 0} → (A → List (Demand F)) → Option A → List (Demand F)
if_there demands None = []
if_there demands (Some x) = demands x

-- the demand that there is a value, with this fault if there is none; then the demands on it
abbrev pub required : {A F : Type 0} → F → (A → List (Demand F)) → Option A → List (Demand F)
required fault demands value = must (is_some value) fault ∷ if_there demands value

-- the first of these demands that is not met has this fault
abbrev pub HasFirstFault : {F : Type 0} → List (Demand F) → F → Type 0
HasFirstFault demands fault = IsFirstUnmet (λ demand. IsTrue demand.met) demands (must false fault)
