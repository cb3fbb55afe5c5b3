-- An attempt to pass with the codes of an account's token, and the reply to it.
use Rattle.std.specs.Prelude.{ℕ, List}
use Rattle.std.specs.declared.option.Option.{Option}
use Rattle.otp_core.specs.Attempt.{CodeTexts}
use Rattle.otp_core.specs.declared.token.reply.Reply.{Reply}

-- an attempt by a code, or by two in a row, and the reply to it, as a log records them
pub record AccountAttempt : Type 0 where
  -- the account's name; in a log, that of the session's login
  pub account : List ℕ
  pub moment : ℕ
  -- what the client sent
  pub sent : CodeTexts
  -- the reply, or none (NOCODE) if the account has no token
  pub reply : Option Reply

-- an attempt, from its parts
abbrev pub account_attempt_of : (account : List ℕ) → (moment : ℕ) → CodeTexts → Option Reply → AccountAttempt
account_attempt_of account moment sent reply = record { account = account; moment = moment; sent = sent; reply = reply }
