-- The lines of one number continue with a line, and without their last line they are lines that it may follow.
use Rattle.std.proofs.Common.{◌≡◌, ◌⊎◌, inl, inr, ℕ, true, false, List, [], ◌∷◌, ◌++◌, refl, sym, ap}
use Rattle.std.specs.declared.option.Option.{Option}
use Rattle.std.specs.declared.option.Option.TheVariants.{None, Some}
use Rattle.log_grammar.specs.Lines.{LogLine, said, ended, mechs, busy}
use Rattle.log_grammar.specs.Places.{Place, between, ending}
use Rattle.log_grammar.specs.Demands.{Demands}
use Rattle.log_grammar.specs.Sessions.{AfterMechs, no_login, session}
use Rattle.log_grammar.specs.state_machine.Steps.{IsTransition, told_at}
use Rattle.log_grammar.specs.Numbered.{Visit, let_in, turned_away, visit_part, visit_lines, visit_told, visit_place, VisitMeets}
use Rattle.log_grammar.specs.state_machine.NumberedSteps.{IsVisitTransition}
use Rattle.log_grammar.proofs.lemmas.state_machine.Growth.{Grown, session_goes_on}
use Rattle.log_grammar.proofs.lemmas.state_machine.Shortening.{session_shortens}

-- a number was given and is closed
pub record IsGivenAndClosed (p : Option Visit) : Type 0 where
  pub given : Visit
  pub is : p ≡ Some given
  pub at : visit_place p ≡ between

-- a number's first line, MECHS, gives it a session of this one line
mechs_begins_visit : (d : Demands) (line : LogLine) (next : Place) → IsTransition d between line next
    → Grown d visit_part None line next (told_at between line)
mechs_begins_visit d (said (mechs names)) next h =
    record { tree = Some (let_in (session names no_login)); lines = refl; at = sym h.1; told_are = refl; good = (h.0, tt) }
mechs_begins_visit d line next h = absurd h

-- the lines of a number that was turned away continue with its `E`
turned_away_visit_goes_on : (d : Demands) (line : LogLine) (next : Place) → IsTransition d ending line next
    → Grown d visit_part (Some (turned_away false)) line next (told_at ending line)
turned_away_visit_goes_on d ended next h = record { tree = Some (turned_away true); lines = refl; at = sym h; told_are = refl; good = tt }
turned_away_visit_goes_on d line next h = absurd h

-- a number is closed, or its lines continue with a line that may stand at its place
pub visit_goes_on : (d : Demands) (p : Option Visit) (line : LogLine) (next : Place) → VisitMeets d p
    → IsVisitTransition d (visit_place p) line next → IsGivenAndClosed p ⊎ Grown d visit_part p line next (told_at (visit_place p) line)
visit_goes_on d None line next meets (inl h) = inr (mechs_begins_visit d line next h)
visit_goes_on d None line next meets (inr b) =
    inr (record { tree = Some (turned_away false); lines = ap (λ (l : LogLine). l ∷ []) (sym b.1); at = sym b.2; told_are = refl; good = tt })
visit_goes_on d (Some (let_in s)) line next meets (inl h) = elim (session_goes_on d s line next meets h) [
  | inl closed ↦ inl (record { given = let_in s; is = refl; at = closed })
  | inr g ↦ inr (record { tree = Some (let_in g.tree); lines = g.lines; at = g.at; told_are = g.told_are; good = g.good })
]
visit_goes_on d (Some (let_in s)) line next meets (inr b) = inl (record { given = let_in s; is = refl; at = b.0 })
visit_goes_on d (Some (turned_away true)) line next meets h = inl (record { given = turned_away true; is = refl; at = refl })
visit_goes_on d (Some (turned_away false)) line next meets (inl h) = inr (turned_away_visit_goes_on d line next h)
visit_goes_on d (Some (turned_away false)) line next meets (inr b) = absurd (cc b.0)

-- the lines of a number are those of a shorter visit and one more line
pub record ShorterVisit (d : Demands) (p : Option Visit) : Type 0 where
  -- the shorter visit
  pub tree : Option Visit
  -- the last line
  pub line : LogLine
  -- the number's lines are those of the shorter visit, then this one
  pub lines : visit_lines p ≡ visit_lines tree ++ line ∷ []
  -- the line may stand at the shorter visit's place, and leads to the number's
  pub goes : IsVisitTransition d (visit_place tree) line (visit_place p)
  -- the recorded replies are those of the shorter visit, then that of the line
  pub told_are : visit_told p ≡ visit_told tree ++ told_at (visit_place tree) line
  -- the shorter visit meets the demands
  pub good : VisitMeets d tree

-- the lines of a session are those of a shorter session, or none, and one more line
session_visit_shortens : (d : Demands) (names : List ℕ) (l : AfterMechs) → VisitMeets d (Some (let_in (session names l)))
    → ShorterVisit d (Some (let_in (session names l)))
session_visit_shortens d names l meets = elim (session_shortens d names l meets.1 meets.0) [
  | inl b ↦ record {
    tree = None;
    line = said (mechs names);
    lines = ap (λ (t : List LogLine). said (mechs names) ∷ t) b.lines;
    goes = inl (meets.0, b.at);
    told_are = b.told_are;
    good = tt;
  }
  | inr s ↦ record { tree = Some (let_in s.tree); line = s.line; lines = s.lines; goes = inl s.goes; told_are = s.told_are; good = s.good }
]

-- a number was not given, or its lines are those of a shorter visit and one more line
pub visit_shortens : (d : Demands) (p : Option Visit) → VisitMeets d p → (p ≡ None) ⊎ ShorterVisit d p
visit_shortens d None meets = inl refl
visit_shortens d (Some (let_in (session names l))) meets = inr (session_visit_shortens d names l meets)
visit_shortens d (Some (turned_away true)) meets =
    inr (record { tree = Some (turned_away false); line = ended; lines = refl; goes = inl refl; told_are = refl; good = tt })
visit_shortens d (Some (turned_away false)) meets =
    inr (record { tree = None; line = said busy; lines = refl; goes = inr (refl, refl, refl); told_are = refl; good = tt })

-- a number without lines is at the place between sessions
pub empty_visit_is_between : (p : Option Visit) → visit_lines p ≡ [] → visit_place p ≡ between
empty_visit_is_between None none = refl
empty_visit_is_between (Some (let_in (session names l))) none = absurd (cc none)
empty_visit_is_between (Some (turned_away closed)) none = absurd (cc none)
