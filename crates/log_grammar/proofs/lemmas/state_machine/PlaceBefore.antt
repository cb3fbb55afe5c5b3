-- A log that meets the demands of some accounts has only one reading.
use Rattle.std.proofs.Common.{◌≡◌, List}
use Rattle.account_book.specs.AccountAttempt.{AccountAttempt}
use Rattle.log_grammar.specs.Lines.{LogLine}
use Rattle.log_grammar.specs.Places.{Place}
use Rattle.log_grammar.specs.Demands.{Accounts, demands}
use Rattle.log_grammar.specs.Begins.{Begins}
use Rattle.log_grammar.proofs.lemmas.state_machine.OneReading.{OneAccount, lines_have_one_reading}
use Rattle.log_grammar.proofs.lemmas.demands.Challenges.{one_name, challenged_first_is_of_name}

-- a challenge is for only one account: the client-first message has only one name
pub challenge_has_one_account : (accounts : Accounts) → OneAccount (demands accounts)
challenge_has_one_account accounts m first account other text a b =
    one_name m first account other (challenged_first_is_of_name accounts m first account text a)
    (challenged_first_is_of_name accounts m first other text b)

-- the law: the place after a log's lines and the replies that it records follow from the lines
pub logs_have_one_reading : (accounts : Accounts) (log : List LogLine) (place other : Place) (told also : List AccountAttempt)
    → Begins (demands accounts) log place told → Begins (demands accounts) log other also → (place ≡ other) × (told ≡ also)
logs_have_one_reading accounts log place other told also begins begins' =
    lines_have_one_reading (demands accounts) (challenge_has_one_account accounts) log place other told also begins begins'
