-- A walk through the lines of an input, one after another.
use Rattle.std.proofs.Common.{ℕ, ◌≤◌, Bool, true, List, [], ◌∷◌, ◌++◌, length, Option, IfSome, refl, sym, subst}
use Rattle.std.specs.Prelude.{◌&&◌}
use Rattle.std.specs.Io.KnownBytes.{IsAtEnd}
use Rattle.std.proofs.Math.Bool.{and_assoc, and-true}
use Rattle.command_io.specs.Input.{line_bytes, TakesLine, AreLinesOf, LinesInTurn}
use Rattle.command_io.proofs.lemmas.InputLines.{end_has_no_lines, taken_line_begins_lines, some_lines}

-- a run has come to a place in its input: what it does from there on extends what it has done since the start
abbrev pub HasCome : {State : Type 0} → (Step : List ℕ → State → Bool → State → Type 0) → (first : Option (List ℕ)) → (start : State)
    → (passed : Bool)
    → (left : Option (List ℕ)) → (now : State) → Type 0
HasCome {State} Step first start passed left now =
    (last : List (List ℕ)) (others : Bool) (new : State) → LinesInTurn Step left last now others new
    → LinesInTurn Step first last start (passed && others) new

-- a run that works on one more line has come one line further
pub run_comes_past_line : {State : Type 0} (Step : List ℕ → State → Bool → State → Type 0) (first : Option (List ℕ)) (start : State)
    (so_far : Bool)
    (left : Option (List ℕ)) (now : State)
    (line : List ℕ) (has_lf : Bool) (rest : Option (List ℕ)) (passed : Bool) (next : State) → HasCome Step first start so_far left now
    → TakesLine left line has_lf rest → 1 ≤ length (line_bytes line has_lf) → Step line now passed next
    → HasCome Step first start (so_far && passed) rest next
run_comes_past_line Step first start so_far left now line has_lf rest passed next come takes some step last others new walk =
    let more : LinesInTurn Step left last now (passed && others) new = record {
      lines = line ∷ walk.lines;
      are = taken_line_begins_lines left line has_lf rest takes some (walk.lines ++ last) walk.are;
      in_turn = (passed, next, others, step, walk.in_turn, refl);
    } in
    subst (λ (b : Bool). LinesInTurn Step first last start b new) (sym (and_assoc so_far passed others))
    (come last (passed && others) new more)

-- a run that stops leaves the lines after the place that it has come to
stopped_run_leaves_rest : {State : Type 0} (Step : List ℕ → State → Bool → State → Type 0) (first : Option (List ℕ)) (start : State)
    (so_far : Bool)
    (left : Option (List ℕ)) (now : State)
    → HasCome Step first start so_far left now → (last : List (List ℕ)) → IfSome left (λ bytes. AreLinesOf bytes last)
    → LinesInTurn Step first last start so_far now
stopped_run_leaves_rest Step first start so_far left now come last are =
    subst (λ (b : Bool). LinesInTurn Step first last start b now) (and-true so_far)
    (come last true now (record { lines = []; are = are; in_turn = (refl, refl) }))

-- a run that comes to the end of its input has worked on all its lines
pub run_at_end_worked_all : {State : Type 0} (Step : List ℕ → State → Bool → State → Type 0) (first : Option (List ℕ)) (start : State)
    (so_far : Bool)
    (left : Option (List ℕ)) (now : State)
    → HasCome Step first start so_far left now → IsAtEnd left → LinesInTurn Step first [] start so_far now
run_at_end_worked_all Step first start so_far left now come end =
    stopped_run_leaves_rest Step first start so_far left now come [] (end_has_no_lines left end)

-- a run that stops before a line has worked on the lines before it, and all others are left
pub run_before_line_worked_first : {State : Type 0} (Step : List ℕ → State → Bool → State → Type 0) (first : Option (List ℕ))
    (start : State) (so_far : Bool)
    (left : Option (List ℕ)) (now : State)
    → HasCome Step first start so_far left now → (last : List (List ℕ)) × LinesInTurn Step first last start so_far now
    × IfSome left (λ bytes. AreLinesOf bytes last)
run_before_line_worked_first Step first start so_far left now come =
    let more = some_lines left in (more.0, stopped_run_leaves_rest Step first start so_far left now come more.0 more.1, more.1)

-- a run that stops at a line has worked on the lines before it
pub run_at_line_worked_first : {State : Type 0} (Step : List ℕ → State → Bool → State → Type 0) (first : Option (List ℕ)) (start : State)
    (so_far : Bool)
    (left : Option (List ℕ)) (now : State)
    (line : List ℕ) (has_lf : Bool) (rest : Option (List ℕ)) → HasCome Step first start so_far left now
    → TakesLine left line has_lf rest → 1 ≤ length (line_bytes line has_lf)
    → (last : List (List ℕ)) × LinesInTurn Step first (line ∷ last) start so_far now
run_at_line_worked_first Step first start so_far left now line has_lf rest come takes some =
    let more = some_lines rest in (
      more.0,
      stopped_run_leaves_rest Step first start so_far left now come (line ∷ more.0)
          (taken_line_begins_lines left line has_lf rest takes some more.0 more.1),
    )
