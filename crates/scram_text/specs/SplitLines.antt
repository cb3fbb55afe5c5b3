-- How bytes are split into lines.
use Rattle.std.specs.Prelude.{ℕ, ◌≡◌, List, [], ◌∷◌, ◌++◌, flat_map}
use Rattle.std.specs.List.{AllByRecursion}
use Rattle.std.specs.Str.{byte}
use Rattle.scram_text.specs.Class.{Lacks}

-- no byte is an LF
abbrev pub LacksLf : List ℕ → Type 0
LacksLf bytes = Lacks (byte "\n") bytes

-- the bytes of these lines, each with its LF
abbrev pub ended_by_lf : List (List ℕ) → List ℕ
ended_by_lf texts = flat_map (λ text. text ++ byte "\n" ∷ []) texts

-- the bytes are these lines, each ended by its LF, and what follows the last LF
pub record IsSplit (bytes : List ℕ) (texts : List (List ℕ)) (rest : List ℕ) : Type 0 where
  pub bytes_are : bytes ≡ ended_by_lf texts ++ rest
  pub lines : AllByRecursion LacksLf texts
  pub after : LacksLf rest
