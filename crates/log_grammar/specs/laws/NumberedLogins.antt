-- Logins in a log of version 2: what `S OK` and `S NO` mean under the number of a session.
use Rattle.std.specs.Prelude.{ℕ, ◌≡◌, ◌≢◌, ◌↔◌, List, [], ◌∷◌, ◌++◌}
use Rattle.account_book.specs.AccountAttempt.{AccountAttempt}
use Rattle.log_grammar.specs.Lines.{LogLine, said, accepts, refuses}
use Rattle.log_grammar.specs.Places.{Place, waits_code, ending}
use Rattle.log_grammar.specs.Demands.{Accounts, demands}
use Rattle.log_grammar.specs.Numbered.{Numbered, numbered, of_number, IsNumberedLogUpTo}
use Rattle.log_grammar.specs.state_machine.NumberedSteps.{FollowsLast}
use Rattle.log_grammar.specs.laws.Logins.{CompletesLogin}
use Rattle.log_grammar.specs.laws.Outcomes.{HasItsMessages, IsRefusalDueAt}

-- the messages in a number's place are those of its own last lines
abbrev pub NumberedPlacesHaveTheirMessages : Type 0
NumberedPlacesHaveTheirMessages = (limit : ℕ) (accounts : Accounts) (log : List (Numbered LogLine)) (places : ℕ → Place)
    (told : List AccountAttempt)
    → IsNumberedLogUpTo limit (demands accounts) log places told → (n : ℕ) → HasItsMessages (places n) (of_number n log)

-- the line of this number comes after the lines of a log, the last of which it may follow, and no other number's place changes
pub record ComesAfter (limit : ℕ) (accounts : Accounts) (log : List (Numbered LogLine)) (places : ℕ → Place) (told : List AccountAttempt)
    (n : ℕ) (line : LogLine) (next : ℕ → Place) : Type 0 where
  pub spelled : IsNumberedLogUpTo limit (demands accounts) log places told
  pub follows : FollowsLast log n line
  pub others : (m : ℕ) → m ≢ n → next m ≡ places m

-- after the lines of its number this message completes a login, and then the client of its account may send codes
pub record IsNumberedAccepted (limit : ℕ) (accounts : Accounts) (log : List (Numbered LogLine)) (n : ℕ) (server_final : List ℕ)
    (next : ℕ → Place) (told : List AccountAttempt) : Type 0 where
  pub name : List ℕ
  pub places : ℕ → Place
  pub after : ComesAfter limit accounts log places told n (said (accepts server_final)) next
  pub login : CompletesLogin accounts (of_number n log) server_final name
  pub is_next : next n ≡ waits_code name

-- an `S OK` may stand under a number if and only if it is the last message of a valid login, whose other messages are in the number's
-- last lines
abbrev pub EachNumberedOkEndsALogin : Type 0
EachNumberedOkEndsALogin = (limit : ℕ) (accounts : Accounts) (log : List (Numbered LogLine)) (n : ℕ) (server_final : List ℕ)
    (next : ℕ → Place) (told : List AccountAttempt)
    → IsNumberedLogUpTo limit (demands accounts) (log ++ numbered n (said (accepts server_final)) ∷ []) next told
    ↔ IsNumberedAccepted limit accounts log n server_final next told

-- the refusal is due at the place of its number, and ends the session
pub record IsNumberedRefused (limit : ℕ) (accounts : Accounts) (log : List (Numbered LogLine)) (n : ℕ) (text : List ℕ)
    (next : ℕ → Place) (told : List AccountAttempt) : Type 0 where
  pub places : ℕ → Place
  pub after : ComesAfter limit accounts log places told n (said (refuses text)) next
  pub due : IsRefusalDueAt accounts (places n) text
  pub is_next : next n ≡ ending

-- `S NO` may stand under a number if and only if it is the refusal that is due
abbrev pub EachNumberedRefusalIsDue : Type 0
EachNumberedRefusalIsDue = (limit : ℕ) (accounts : Accounts) (log : List (Numbered LogLine)) (n : ℕ) (text : List ℕ)
    (next : ℕ → Place) (told : List AccountAttempt)
    → IsNumberedLogUpTo limit (demands accounts) (log ++ numbered n (said (refuses text)) ∷ []) next told
    ↔ IsNumberedRefused limit accounts log n text next told
