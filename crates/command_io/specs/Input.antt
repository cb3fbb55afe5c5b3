-- How an input is cut into lines, and what working through them means.
use Rattle.std.specs.Prelude.{ℕ, ◌≡◌, ◌⊎◌, Bool, ◌&&◌, true, false, List, [], ◌∷◌, ◌++◌, IfSome}
use Rattle.std.specs.Str.{byte}
use Rattle.std.specs.Io.KnownBytes.{Consumes, IsAtEnd}
use Rattle.std.specs.declared.option.Option.{Option}
use Rattle.scram_text.specs.Class.{IsPassword}
use Rattle.scram_text.specs.SplitLines.{LacksLf, IsSplit}
use Rattle.command_line.specs.declared.fault.Fault.{Fault}
use Rattle.command_line.specs.declared.fault.Fault.TheVariants.{BadPassword, CannotReadInput, NoMemory}

-- the most bytes of its input that a command reads (16 MiB)
abbrev pub max_input_len : ℕ
max_input_len = 16777216

-- a line can't be read: the input failed, or has more bytes than a command reads; or memory ran out
abbrev pub IsInputUnreadOrNoMemory : Fault → Type 0
IsInputUnreadOrNoMemory fault = (fault ≡ CannotReadInput) ⊎ (fault ≡ NoMemory)

-- the bytes of a line in its input: its own, and its LF if it has one
abbrev pub line_bytes : (line : List ℕ) → (has_lf : Bool) → List ℕ
line_bytes line true = line ++ byte "\n" ∷ []
line_bytes line false = line

-- an input, if its bytes are known, begins with this line, which is taken from it; only the last line may lack an LF
pub record TakesLine (old : Option (List ℕ)) (line : List ℕ) (has_lf : Bool) (new : Option (List ℕ)) : Type 0 where
  pub lacks : LacksLf line
  pub taken : Consumes old new (line_bytes line has_lf)
  pub ended : has_lf ≡ false → IsAtEnd new

-- the first line of an input, if its bytes are known: they are the line, or begin with it and an LF
abbrev pub IsFirstLine : (input : Option (List ℕ)) → (line : List ℕ) → Type 0
IsFirstLine input line = LacksLf line × IfSome input (λ bytes. (bytes ≡ line) ⊎ ((rest : List ℕ) × (bytes ≡ line ++ byte "\n" ∷ rest)))

-- the first line of the input is not a password
abbrev pub HasBadPassword : (input : Option (List ℕ)) → Fault → Type 0
HasBadPassword input fault = (fault ≡ BadPassword) × ((line : List ℕ) × IsFirstLine input line × (IsPassword line → ⊥))

-- what follows the last LF is also a line, if it has a byte
abbrev pub last_line : List ℕ → List (List ℕ)
last_line [] = []
last_line (c ∷ rest) = (c ∷ rest) ∷ []

-- the lines of an input: those that end with an LF, and what follows the last LF
pub record AreLinesOf (bytes : List ℕ) (lines : List (List ℕ)) : Type 0 where
  pub texts : List (List ℕ)
  pub rest : List ℕ
  pub cut : IsSplit bytes texts rest
  pub are : lines ≡ texts ++ last_line rest

-- these are the lines of an input, if its bytes are known, except these last ones
abbrev pub AreFirstLines : (input : Option (List ℕ)) → (lines last : List (List ℕ)) → Type 0
AreFirstLines input lines last = IfSome input (λ bytes. AreLinesOf bytes (lines ++ last))

-- each of these lines is worked on in turn, by a step that says whether the line passed; `all_passed` says whether every line did
abbrev pub EachInTurn : {State : Type 0} → (Step : List ℕ → State → (passed : Bool) → State → Type 0) → List (List ℕ) → State
    → (all_passed : Bool) → State → Type 0
EachInTurn Step [] old all_passed new = (new ≡ old) × (all_passed ≡ true)
EachInTurn {State} Step (line ∷ lines) old all_passed new =
    (passed : Bool) × (next : State) × (others : Bool) × Step line old passed next × EachInTurn Step lines next others new
    × (all_passed ≡ (passed && others))

-- the first lines of an input, all but these last ones: each is worked on in turn
pub record LinesInTurn {State : Type 0} (Step : List ℕ → State → (passed : Bool) → State → Type 0) (input : Option (List ℕ))
    (last : List (List ℕ)) (old : State) (all_passed : Bool) (new : State) : Type 0 where
  pub lines : List (List ℕ)
  pub are : AreFirstLines input lines last
  pub in_turn : EachInTurn Step lines old all_passed new
