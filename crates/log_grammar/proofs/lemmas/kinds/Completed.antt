-- Each front of a log of either version is completed to a clean log, by lines that end what is open.
use Rattle.std.proofs.Common.{inl, inr, ℕ, List, [], ◌∷◌, ◌++◌, refl}
use Rattle.std.specs.Prelude.{map}
use Rattle.scram_text.specs.SplitLines.{ended_by_lf}
use Rattle.log_grammar.specs.Lines.{log_bytes}
use Rattle.log_grammar.specs.NumberedLines.{numbered_text}
use Rattle.log_grammar.specs.Demands.{Accounts}
use Rattle.log_grammar.specs.Books.{accounts_in}
use Rattle.log_grammar.specs.laws.FitAccounts.{AllCanBeChallenged}
use Rattle.log_grammar.specs.laws.Completions.{AreFrontAndCompletion, FrontsAreCompleted}
use Rattle.log_grammar.specs.LogKinds.{IsLogFrontOf}
use Rattle.log_grammar.specs.VersionOne.{version_one}
use Rattle.log_grammar.specs.Versions.{max_open_sessions, IsLogFront, IsClean}
use Rattle.log_grammar.proofs.lemmas.completions.EachPlace.{version_one_fronts_are_completed}
use Rattle.log_grammar.proofs.lemmas.completions.NumberedFronts.{version_two_fronts_are_completed}
use Rattle.log_grammar.proofs.lemmas.demands.FitBooks.{books_can_be_challenged}
use Rattle.log_grammar.proofs.lemmas.kinds.VersionOne.{version_one_has_empty_front}

-- a front is completed by such lines to a clean log
abbrev IsCompleted : Accounts → (front : List ℕ) → Type 0
IsCompleted accounts front = (more : List ℕ) × AreFrontAndCompletion front more × IsClean accounts (front ++ more)

module _ (accounts : Accounts) (fit : AllCanBeChallenged accounts) where
  -- a front of version 1 is completed
  front_of_one_is_completed : (front : List ℕ) → IsLogFrontOf (version_one accounts) front → IsCompleted accounts front
  front_of_one_is_completed front is =
      let (lines, complete, clean) = version_one_fronts_are_completed accounts fit front is in
      let (texts, cut, ends) = clean in
      (log_bytes lines, inl (lines, complete, refl), (texts, cut, inl ends))

  -- a front of either version is completed
  front_is_completed : (front : List ℕ) → IsLogFront accounts front → IsCompleted accounts front
  front_is_completed front (texts, cut, inl stands) = front_of_one_is_completed front (texts, cut, stands)
  front_is_completed front ([], cut, inr stands) = front_of_one_is_completed front ([], cut, version_one_has_empty_front accounts)
  front_is_completed front (first ∷ texts, cut, inr stands) =
      let (log, lines, complete, spelled, clean) =
      version_two_fronts_are_completed max_open_sessions accounts fit front first texts cut stands in
      let (all, whole, ends) = clean in
      (ended_by_lf (map numbered_text lines), inr (log, lines, complete, spelled, refl), (all, whole, inr ends))

-- the law: for every account book, each front is completed by such lines to a clean log
pub fronts_of_books_are_completed : FrontsAreCompleted
fronts_of_books_are_completed book is = front_is_completed (accounts_in book) (books_can_be_challenged book is)
