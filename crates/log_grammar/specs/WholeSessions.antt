-- The lines of a whole session, with the attempts by codes in them, each with its reply. This is a grammar: below each head stand all
-- ways in which such lines can be made. It says what a client may say, and what the server has to answer by the accounts and the
-- messages of the session (RFC 5802, section 5).
use Rattle.std.specs.Prelude.{ℕ, List, [], ◌∷◌}
use Rattle.std.specs.declared.option.Option.{Option}
use Rattle.mac_core.specs.declared.mechanism.Mechanism.{Mechanism}
use Rattle.otp_core.specs.Attempt.{CodeTexts}
use Rattle.otp_core.specs.declared.token.reply.Reply.{Reply}
use Rattle.scram_ends.specs.Login.{IsAuthentic}
use Rattle.scram_ends.specs.Verdict.{accept, refuse, due_text}
use Rattle.scram_ends.specs.declared.verdict.Refusal.{Refusal}
use Rattle.account_book.specs.AccountAttempt.{AccountAttempt, account_attempt_of}
use Rattle.log_grammar.specs.Words.{offered_names}
use Rattle.log_grammar.specs.Lines.{LogLine, said, heard, bad, gone, ended, mechs, cont, accepts, refuses, replies, halt, auth, auth_with, resp}
use Rattle.log_grammar.specs.Lines.{abort, code_line}
use Rattle.log_grammar.specs.Demands.{Accounts, NamesMechanism, IsUnoffered, IsNotTakenUp, IsChallenged, IsVerdictDue}

-- the client ends the session: it goes away; or it sends ABORT, or a bad line, and `S NO` without a message answers
pub data IsQuit : List LogLine → Type 0 where
  by_gone : IsQuit (gone ∷ ended ∷ [])
  by_abort : IsQuit (heard abort ∷ said (refuses []) ∷ ended ∷ [])
  by_bad : IsQuit (bad ∷ said (refuses []) ∷ ended ∷ [])

-- after `S OK`: codes, one or two in a row, each with its reply, until the client ends the session, or `S HALT` stands in place of a reply
-- and ends the log. Which reply is due is said for all sessions together.
pub data AreCodes (account : List ℕ) : List LogLine → List AccountAttempt → Type 0 where
  then_quit : {lines : List LogLine} → IsQuit lines → AreCodes account lines []
  then_halt : (sent : CodeTexts) → AreCodes account (heard (code_line sent) ∷ said halt ∷ []) []
  then_reply : (sent : CodeTexts) (moment : ℕ) (reply : Option Reply) {lines : List LogLine} {told : List AccountAttempt}
      → AreCodes account lines told
      → AreCodes account (heard (code_line sent) ∷ said (replies moment reply) ∷ lines)
      (account_attempt_of account moment sent reply ∷ told)

-- after the challenge: the client ends the session; or it sends its last message, and the verdict that is due refuses the login, or
-- accepts it
pub data FollowChallenge (accounts : Accounts) (mechanism account client_first server_first : List ℕ)
    : List LogLine → List AccountAttempt → Type 0 where
  quits_after_challenge : {lines : List LogLine} → IsQuit lines
      → FollowChallenge accounts mechanism account client_first server_first lines []
  is_denied : (client_final : List ℕ) (why : Refusal)
      → IsVerdictDue accounts mechanism account client_first server_first client_final (refuse why)
      → FollowChallenge accounts mechanism account client_first server_first
      (heard (resp client_final) ∷ said (refuses (due_text (refuse why))) ∷ ended ∷ []) []
  is_granted : (client_final server_final signature : List ℕ) {lines : List LogLine} {told : List AccountAttempt}
      → IsVerdictDue accounts mechanism account client_first server_first client_final (accept signature)
      → IsAuthentic server_final signature → AreCodes account lines told
      → FollowChallenge accounts mechanism account client_first server_first
      (heard (resp client_final) ∷ said (accepts server_final) ∷ lines) told

-- after the client's first message: `S NO` without a message, if a server does not take it up; else a challenge for the account that
-- it names
pub data FollowFirst (accounts : Accounts) (mechanism client_first : List ℕ) : List LogLine → List AccountAttempt → Type 0 where
  is_refused : IsNotTakenUp mechanism client_first → FollowFirst accounts mechanism client_first (said (refuses []) ∷ ended ∷ []) []
  is_challenged : (account server_first : List ℕ) {lines : List LogLine} {told : List AccountAttempt}
      → IsChallenged accounts mechanism account client_first server_first
      → FollowChallenge accounts mechanism account client_first server_first lines told
      → FollowFirst accounts mechanism client_first (said (cont server_first) ∷ lines) told

-- after `S MECHS`: the client ends the session, or asks for a mechanism. It sends its first message with that; or later, after an empty
-- challenge, where it may also end the session. Without a message, a mechanism that is not offered is refused.
pub data FollowOffer (accounts : Accounts) : List LogLine → List AccountAttempt → Type 0 where
  quits_after_offer : {lines : List LogLine} → IsQuit lines → FollowOffer accounts lines []
  message_with_auth : (mechanism client_first : List ℕ) {lines : List LogLine} {told : List AccountAttempt}
      → FollowFirst accounts mechanism client_first lines told
      → FollowOffer accounts (heard (auth_with mechanism client_first) ∷ lines) told
  message_after_auth : (mechanism client_first : List ℕ) (m : Mechanism) {lines : List LogLine} {told : List AccountAttempt}
      → NamesMechanism mechanism m → FollowFirst accounts mechanism client_first lines told
      → FollowOffer accounts (heard (auth mechanism) ∷ said (cont []) ∷ heard (resp client_first) ∷ lines) told
  quits_after_auth : (mechanism : List ℕ) (m : Mechanism) {lines : List LogLine}
      → NamesMechanism mechanism m → IsQuit lines → FollowOffer accounts (heard (auth mechanism) ∷ said (cont []) ∷ lines) []
  is_unoffered : (mechanism : List ℕ) → IsUnoffered mechanism
      → FollowOffer accounts (heard (auth mechanism) ∷ said (refuses []) ∷ ended ∷ []) []

-- a session: the offer of the two mechanisms, and what follows it
pub data IsSession (accounts : Accounts) : List LogLine → List AccountAttempt → Type 0 where
  after_offer : {lines : List LogLine} {told : List AccountAttempt}
      → FollowOffer accounts lines told → IsSession accounts (said (mechs offered_names) ∷ lines) told
