-- The replies to one account only.
use Rattle.std.specs.Prelude.{ℕ, ◌≡◌, List, reverse}
use Rattle.std.specs.List.{AllByRecursion}
use Rattle.std.specs.declared.option.Option.{Option}
use Rattle.std.specs.declared.option.Option.TheVariants.{None, Some}
use Rattle.otp_core.specs.History.{IsLegal}
use Rattle.otp_core.specs.declared.token.reply.Reply.{Reply}
use Rattle.otp_core.specs.declared.token.kinds.TokenFields.{TokenFields}
use Rattle.account_book.specs.AccountAttempt.{AccountAttempt}
use Rattle.log_grammar.specs.Demands.{attempts_of}

-- if this was logged for this account, there was no reply
abbrev pub HasNoReply : List ℕ → AccountAttempt → Type 0
HasNoReply account t = t.account ≡ account → t.reply ≡ None

-- if this was logged for this account, there was a reply
abbrev pub HasReply : List ℕ → AccountAttempt → Type 0
HasReply account t = t.account ≡ account → (reply : Reply) × (t.reply ≡ Some reply)

-- an account without a token has no reply to any code; one with a token has a reply to each, and its attempts, put latest first, are a
-- legal history of the token
abbrev pub IsHistory : Option TokenFields → List ℕ → List AccountAttempt → Type 0
IsHistory None account told = AllByRecursion (HasNoReply account) told
IsHistory (Some token) account told =
    AllByRecursion (HasReply account) told × IsLegal token (attempts_of account (reverse told))
