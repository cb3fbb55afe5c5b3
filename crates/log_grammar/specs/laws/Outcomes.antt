-- The server's lines one by one: where each may stand in a log, and which messages come before it.
use Rattle.std.specs.Prelude.{ℕ, ◌≡◌, ◌⊎◌, ◌↔◌, List, [], ◌∷◌, ◌++◌, reverse}
use Rattle.std.specs.declared.option.Option.{Option}
use Rattle.mac_core.specs.declared.mechanism.Mechanism.{Mechanism}
use Rattle.otp_core.specs.Attempt.{CodeTexts}
use Rattle.otp_core.specs.declared.token.reply.Reply.{Reply}
use Rattle.scram_ends.specs.Verdict.{refuse, due_text}
use Rattle.scram_ends.specs.declared.verdict.Refusal.{Refusal}
use Rattle.account_book.specs.AccountAttempt.{AccountAttempt, account_attempt_of}
use Rattle.log_grammar.specs.Words.{offered_names}
use Rattle.log_grammar.specs.Lines.{LogLine, said, heard, mechs, cont, refuses, replies, halt, auth, code_line}
use Rattle.log_grammar.specs.laws.LastLines.{EndsWith}
use Rattle.log_grammar.specs.Places.{Place, between, offered, asks_bare, waits_first, got_first, waits_final, got_final, waits_code, got_code}
use Rattle.log_grammar.specs.Places.{leaving, ending, halted}
use Rattle.log_grammar.specs.Demands.{Accounts, NamesMechanism, IsChallenged, IsVerdictDue, HasDueReply, demands, IsUnoffered, IsNotTakenUp}
use Rattle.log_grammar.specs.Begins.{Begins}
use Rattle.log_grammar.specs.laws.Logins.{IsNoLogin, IsSentBy, EndWithThreeMessages}

-- if a log may begin with some lines, it may begin with the first of them, and the replies in those come first: so each law about a
-- log's last line holds for every line of it
abbrev pub FirstLinesBeginLogs : Type 0
FirstLinesBeginLogs = (accounts : Accounts) (lines more : List LogLine) (place : Place) (told : List AccountAttempt)
    → Begins (demands accounts) (lines ++ more) place told
    → (at : Place) × (before : List AccountAttempt) × (rest : List AccountAttempt) × Begins (demands accounts) lines at before
    × (told ≡ before ++ rest)

-- the messages in a place are those of the last lines, which are of one session
abbrev pub HasItsMessages : Place → List LogLine → Type 0
HasItsMessages (asks_bare mechanism) log = EndsWith log (heard (auth mechanism) ∷ [])
HasItsMessages (waits_first mechanism) log = EndsWith log (heard (auth mechanism) ∷ said (cont []) ∷ [])
HasItsMessages (got_first mechanism client_first) log = (lines : List LogLine) × IsSentBy mechanism client_first lines × EndsWith log lines
HasItsMessages (waits_final mechanism account client_first server_first) log =
    (lines : List LogLine) × IsSentBy mechanism client_first lines × EndsWith log (lines ++ said (cont server_first) ∷ [])
HasItsMessages (got_final mechanism account client_first server_first client_final) log =
    EndWithThreeMessages log mechanism client_first server_first client_final
HasItsMessages (got_code account sent) log = EndsWith log (heard (code_line sent) ∷ [])
HasItsMessages place log = Unit {0}

-- the messages in a log's place are those of its lines
abbrev pub PlacesHaveTheirMessages : Type 0
PlacesHaveTheirMessages = (accounts : Accounts) (log : List LogLine) (place : Place) (told : List AccountAttempt)
    → Begins (demands accounts) log place told → HasItsMessages place log

-- `S MECHS` may stand in a log if and only if a session may begin there, and it has the two names
abbrev pub EachOfferIsDue : Type 0
EachOfferIsDue = (accounts : Accounts) (log : List LogLine) (names : List ℕ) (next : Place) (told : List AccountAttempt)
    → Begins (demands accounts) (log ++ said (mechs names) ∷ []) next told
    ↔ (Begins (demands accounts) log between told × (names ≡ offered_names) × (next ≡ offered))

-- the empty challenge, after a mechanism that is offered; or a challenge to the client-first message, for the
-- account that it names
abbrev pub IsChallengeDue : Accounts → List LogLine → List ℕ → Place → List AccountAttempt → Type 0
IsChallengeDue accounts log text next told =
    ((mechanism : List ℕ) × Begins (demands accounts) log (asks_bare mechanism) told
    × ((m : Mechanism) × NamesMechanism mechanism m) × (text ≡ []) × (next ≡ waits_first mechanism))
    ⊎ ((mechanism : List ℕ) × (client_first : List ℕ) × (name : List ℕ)
    × Begins (demands accounts) log (got_first mechanism client_first) told
    × IsChallenged accounts mechanism name client_first text × (next ≡ waits_final mechanism name client_first text))

-- `S CONT` may stand in a log if and only if it is one of these challenges
abbrev pub EachChallengeIsDue : Type 0
EachChallengeIsDue = (accounts : Accounts) (log : List LogLine) (text : List ℕ) (next : Place) (told : List AccountAttempt)
    → Begins (demands accounts) (log ++ said (cont text) ∷ []) next told ↔ IsChallengeDue accounts log text next told

-- the refusal that is due at a place: a bare one, of a mechanism that is not offered, of a client-first message that a server does not
-- take up, or to a client that ends its session; or the verdict on three messages that no fourth makes a valid login
abbrev pub IsRefusalDueAt : Accounts → Place → (text : List ℕ) → Type 0
IsRefusalDueAt accounts (asks_bare mechanism) text = IsUnoffered mechanism × (text ≡ [])
IsRefusalDueAt accounts (got_first mechanism client_first) text = IsNotTakenUp mechanism client_first × (text ≡ [])
IsRefusalDueAt accounts (got_final mechanism name client_first server_first client_final) text =
    ((why : Refusal) × IsVerdictDue accounts mechanism name client_first server_first client_final (refuse why)
    × (text ≡ due_text (refuse why)))
    × IsNoLogin accounts mechanism client_first server_first client_final
IsRefusalDueAt accounts leaving text = text ≡ []
IsRefusalDueAt accounts place text = ⊥

-- `S NO` may stand in a log if and only if it is the refusal that is due
abbrev pub EachRefusalIsDue : Type 0
EachRefusalIsDue = (accounts : Accounts) (log : List LogLine) (text : List ℕ) (next : Place) (told : List AccountAttempt)
    → Begins (demands accounts) (log ++ said (refuses text) ∷ []) next told
    ↔ ((place : Place) × Begins (demands accounts) log place told × IsRefusalDueAt accounts place text × (next ≡ ending))

-- the reply that is due to a code, or to two in a row, after the earlier replies to its account
pub record IsReplied (accounts : Accounts) (log : List LogLine) (moment : ℕ) (reply : Option Reply) (next : Place)
    (all : List AccountAttempt) : Type 0 where
  pub account : List ℕ
  pub sent : CodeTexts
  pub told : List AccountAttempt
  pub after : Begins (demands accounts) log (got_code account sent) told
  pub due : HasDueReply accounts (reverse told) (account_attempt_of account moment sent reply)
  pub told_are : all ≡ told ++ account_attempt_of account moment sent reply ∷ []
  pub is_next : next ≡ waits_code account

-- PASS, FAIL, LOCKED and NOCODE may stand in a log if and only if they are that reply
abbrev pub EachReplyIsDue : Type 0
EachReplyIsDue = (accounts : Accounts) (log : List LogLine) (moment : ℕ) (reply : Option Reply) (next : Place) (all : List AccountAttempt)
    → Begins (demands accounts) (log ++ said (replies moment reply) ∷ []) next all ↔ IsReplied accounts log moment reply next all

-- `S HALT` may stand after a code, or two in a row, whatever they are, and nowhere else
abbrev pub EachHaltEndsACode : Type 0
EachHaltEndsACode = (accounts : Accounts) (log : List LogLine) (next : Place) (told : List AccountAttempt)
    → Begins (demands accounts) (log ++ said halt ∷ []) next told
    ↔ ((account : List ℕ) × (sent : CodeTexts) × Begins (demands accounts) log (got_code account sent) told × (next ≡ halted))
