-- What a call demands of its arguments, and what it answers.
use Rattle.std.specs.Prelude.{ℕ, ◌≡◌, ◌⊎◌, List, [], ◌∷◌}

-- a demand of a call: when its arguments meet it, and what the number that it returns says if they do not
pub record Demand : Type 1 where
  pub IsMet : Type 0
  pub IsFault : ℕ → Type 0

-- a demand whose fault has this number
abbrev pub demand : (number : ℕ) → (IsMet : Type 0) → Demand
demand number IsMet = record { IsMet = IsMet; IsFault = λ told. (told ≡ number) × (IsMet → ⊥) }

-- each demand is met
abbrev pub AreMet : List Demand → Type 0
AreMet [] = Unit {0}
AreMet (d ∷ rest) = d.IsMet × AreMet rest

-- the number is that of the first demand that is not met
abbrev pub IsFirstFault : List Demand → (number : ℕ) → Type 0
IsFirstFault [] number = ⊥
IsFirstFault (d ∷ rest) number = d.IsFault number ⊎ (d.IsMet × IsFirstFault rest number)

-- what a call answers: if each demand is met, it does what is promised; else it returns the number of the first that is not, and leaves
-- everything as it was
abbrev pub IsAnswered : List Demand → (number : ℕ) → (Promised Left : Type 0) → Type 0
IsAnswered demands number Promised Left = (AreMet demands × Promised) ⊎ (IsFirstFault demands number × Left)
