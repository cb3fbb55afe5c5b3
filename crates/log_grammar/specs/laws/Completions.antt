-- With which lines a front is completed to a clean log.
use Rattle.std.specs.Prelude.{ℕ, ◌≡◌, ◌⊎◌, List, [], ◌∷◌, ◌++◌, map}
use Rattle.std.specs.List.{AllByRecursion}
use Rattle.scram_text.specs.SplitLines.{ended_by_lf}
use Rattle.account_book.specs.{BookFields, IsBook}
use Rattle.log_grammar.specs.Lines.{LogLine, header_one, header_two, said, gone, ended, cont, accepts, refuses, busy, halt, log_line_text, log_bytes}
use Rattle.log_grammar.specs.Books.{accounts_in}
use Rattle.log_grammar.specs.Numbered.{Numbered, numbered}
use Rattle.log_grammar.specs.NumberedLines.{numbered_text}
use Rattle.log_grammar.specs.Versions.{IsLogFront, IsClean}

-- lines that end an open session: the server's, if it is due, which is demanded there; `C GONE`, if the client is due then; and `E`
abbrev pub EndSession : List LogLine → Type 0
EndSession lines =
    (lines ≡ ended ∷ [])
    ⊎ ((lines ≡ gone ∷ ended ∷ [])
    ⊎ (((message : List ℕ) × (lines ≡ said (refuses message) ∷ ended ∷ []))
    ⊎ (((message : List ℕ) × (lines ≡ said (cont message) ∷ gone ∷ ended ∷ []))
    ⊎ ((message : List ℕ) × (lines ≡ said (accepts message) ∷ gone ∷ ended ∷ [])))))

-- lines that complete a log of version 1: the first line, of an empty one; those that end its open session, if it has one; or `S HALT`
abbrev pub CompleteLog : List LogLine → Type 0
CompleteLog lines = (lines ≡ []) ⊎ ((lines ≡ header_one ∷ []) ⊎ ((lines ≡ said halt ∷ []) ⊎ EndSession lines))

-- the lines of these numbers, one number's after another's
abbrev pub in_turn : List (Numbered (List LogLine)) → List (Numbered LogLine)
in_turn [] = []
in_turn (one ∷ others) = map (numbered one.number) one.value ++ in_turn others

-- numbered lines that end open sessions, one after another, or up to a halt
pub record EndSessions (lines : List (Numbered LogLine)) : Type 0 where
  pub sessions : List (Numbered (List LogLine))
  pub each : AllByRecursion (λ one. EndSession one.value) sessions
  pub last : List (Numbered LogLine)
  pub may_halt : (last ≡ []) ⊎ ((n : ℕ) × (last ≡ numbered n (said halt) ∷ []))
  pub are : lines ≡ in_turn sessions ++ last

-- numbered lines that complete a log of version 2: if its last line is BUSY, the `E` of that number comes first; the others end the open
-- sessions
abbrev pub CompleteNumberedLog : (log lines : List (Numbered LogLine)) → Type 0
CompleteNumberedLog log lines =
    EndSessions lines
    ⊎ ((before : List (Numbered LogLine)) × (n : ℕ) × (others : List (Numbered LogLine))
    × (log ≡ before ++ numbered n (said busy) ∷ []) × (lines ≡ numbered n ended ∷ others) × EndSessions others)

-- the bytes of a front, and then those of the lines that complete it
abbrev pub AreFrontAndCompletion : (front more : List ℕ) → Type 0
AreFrontAndCompletion front more =
    ((lines : List LogLine) × CompleteLog lines × (more ≡ log_bytes lines))
    ⊎ ((log : List (Numbered LogLine)) × (lines : List (Numbered LogLine)) × CompleteNumberedLog log lines
    × (front ≡ ended_by_lf (log_line_text header_two ∷ map numbered_text log)) × (more ≡ ended_by_lf (map numbered_text lines)))

-- for every account book, each front is completed by such lines to a clean log
abbrev pub FrontsAreCompleted : Type 0
FrontsAreCompleted = (book : BookFields) → IsBook book → (front : List ℕ) → IsLogFront (accounts_in book) front
    → (more : List ℕ) × AreFrontAndCompletion front more × IsClean (accounts_in book) (front ++ more)
