-- What an attempt does to a token.
use Rattle.std.specs.Prelude.{ℕ, ◌≡◌, ◌≤◌, List, ◌∷◌}
use Rattle.otp_core.specs.Ranges.{max_counter}
use Rattle.otp_core.specs.Attempt.{Attempt, CodeTexts}
use Rattle.otp_core.specs.History.{IsAfter}
use Rattle.otp_core.specs.Reply.{IsDueReply}
use Rattle.otp_core.specs.State.{after_reply}
use Rattle.otp_core.specs.declared.token.reply.Reply.{Reply}
use Rattle.otp_core.specs.declared.token.reply.Reply.TheVariants.{Pass}
use Rattle.otp_core.specs.declared.token.kinds.TokenFields.{TokenFields}

-- an attempt on the old token gets this reply and leads to the new token
pub record IsTokenAttempt (old : TokenFields) (moment : ℕ) (sent : CodeTexts) (reply : Reply) (new : TokenFields) : Type 0 where
  -- for every start and history that lead to the old token, the reply is the one due after them
  pub due : (start : TokenFields) (history : List Attempt) → IsAfter start history old → IsDueReply start history moment sent reply
  -- with this attempt added, they lead to the new token
  pub after : (start : TokenFields) (history : List Attempt) → IsAfter start history old
      → IsAfter start (record { moment = moment; sent = sent; reply = reply } ∷ history) new
  -- the new token is the old one after the reply
  pub state : new ≡ after_reply old moment reply
  -- a counter that passes is at most the greatest that can pass
  pub counter : (c : ℕ) → reply ≡ Pass c → c ≤ max_counter
