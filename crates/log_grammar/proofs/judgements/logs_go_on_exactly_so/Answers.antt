use Rattle.std.proofs.Common.{◌≡◌, List, ◌++◌, [], ◌∷◌, reverse, sym, subst}
use Rattle.account_book.specs.AccountAttempt.{AccountAttempt}
use Rattle.log_grammar.specs.Lines.{LogLine}
use Rattle.log_grammar.specs.Places.{Place}
use Rattle.log_grammar.specs.Demands.{Accounts, demands, HaveDueReplies}
use Rattle.log_grammar.specs.state_machine.Steps.{IsTransition, told_at}
use Rattle.log_grammar.specs.Begins.{Begins}
use Rattle.log_grammar.specs.laws.LogLaws.{HasLastTransition}
use Rattle.log_grammar.proofs.lemmas.state_machine.LogSteps.{log_goes_on, log_has_last_transition}
use Rattle.log_grammar.proofs.lemmas.state_machine.PlaceBefore.{logs_have_one_reading}
use Rattle.log_grammar.proofs.judgements.logs_go_on_exactly_so.Goals as goal

-- the line may stand at the place and leads to the next one; its reply, if it is one, is due; and `all` is `told` with this reply
abbrev StandsAndTells : Accounts → Place → List AccountAttempt → LogLine → Place → List AccountAttempt → Type 0
StandsAndTells accounts place told line next all =
    IsTransition (demands accounts) place line next × HaveDueReplies (demands accounts) (reverse told) (told_at place line)
    × (all ≡ told ++ told_at place line)

-- the last line of a log may stand at the place that the lines before it lead to
last_line_stands : (accounts : Accounts) (log : List LogLine) (place : Place) (told : List AccountAttempt) (line : LogLine) (next : Place)
    (all : List AccountAttempt)
    → (s : HasLastTransition (demands accounts) log line next all) → s.place ≡ place → s.told ≡ told
    → StandsAndTells accounts place told line next all
last_line_stands accounts log place told line next all s at also =
    subst (λ (t : List AccountAttempt). StandsAndTells accounts place t line next all) also
    (subst (λ (p : Place). StandsAndTells accounts p s.told line next all) at (s.goes, s.due, s.told_are))

-- a log continues with a line that may stand at its place
standing_line_goes_on : (accounts : Accounts) (log : List LogLine) (place : Place) (told : List AccountAttempt)
    (line : LogLine) (next : Place)
    (all : List AccountAttempt)
    → Begins (demands accounts) log place told → StandsAndTells accounts place told line next all
    → Begins (demands accounts) (log ++ line ∷ []) next all
standing_line_goes_on accounts log place told line next all begins stands =
    subst (λ (t : List AccountAttempt). Begins (demands accounts) (log ++ line ∷ []) next t) (sym stands.2)
    (log_goes_on (demands accounts) log place told line next begins stands.0 stands.1)

pub returns : goal.returns
returns c = λ accounts log place told line next all begins. (
  λ longer.
      let s = log_has_last_transition (demands accounts) log line next all longer in
      let same = logs_have_one_reading accounts log s.place place s.told told s.begins begins in
      last_line_stands accounts log place told line next all s same.0 same.1,
  λ stands. standing_line_goes_on accounts log place told line next all begins stands,
)
