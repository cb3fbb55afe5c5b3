-- Laws of histories.
use Rattle.std.specs.Prelude.{ℕ, ◌≡◌, ◌≤◌, ◌<◌, List, [], ◌++◌}
use Rattle.std.specs.Option.{ForSome}
use Rattle.otp_core.specs.Attempt.{Attempt, CodeTexts, used_in}
use Rattle.otp_core.specs.Window.{IsAbove, CanPass}
use Rattle.otp_core.specs.Reply.{IsDueReply}
use Rattle.otp_core.specs.History.{IsAfter, IsLegal, AreAlike}
use Rattle.otp_core.specs.declared.token.reply.Reply.{Reply}
use Rattle.otp_core.specs.declared.token.kinds.TokenFields.{TokenFields}
use Rattle.otp_core.specs.declared.token.kinds.TokenFields.TheVariants.{Hotp, Totp}

-- the empty history leads from each token to that token itself
abbrev pub BeginsWithItself : Type 0
BeginsWithItself = (token : TokenFields) → IsAfter token [] token

-- a counter that can pass, by itself or as the first of a pair, is above each that the history has used, so none is used twice
abbrev pub CandidatesAreNew : Type 0
CandidatesAreNew = (start : TokenFields) (history : List Attempt) (moment c : ℕ)
    → CanPass start history moment c → IsAbove (used_in history) c

-- a token has not used this counter: it is HOTP's next or one after it; or a step after TOTP's last, or any step if there is no last
abbrev pub IsUnused : TokenFields → ℕ → Type 0
IsUnused (Hotp t) c = t.next ≤ c
IsUnused (Totp t) c = ForSome t.last (λ l. l < c)

-- a counter that a start has used cannot pass after any legal history, by itself or as the first of a pair. IsUnused does not
-- depend on failures, so the law also holds for the start after an unlock.
abbrev pub UsedStaysUsed : Type 0
UsedStaysUsed = (start : TokenFields) (history : List Attempt) (moment c : ℕ)
    → IsLegal start history → CanPass start history moment c → IsUnused start c

-- if one history leads from a start to a token, and a second from that token to an end, both together lead from the start to the end
abbrev pub HistoriesJoin : Type 0
HistoriesJoin = (start : TokenFields) (earlier : List Attempt) (middle : TokenFields) (later : List Attempt) (end : TokenFields)
    → IsAfter start earlier middle → IsAfter middle later end → IsAfter start (later ++ earlier) end

-- if one history leads from a start to a token, and a second is legal from that token, both together are legal from the start, and
-- `AreAlike` is true of both together and the second by itself
abbrev pub LegalHistoriesJoin : Type 0
LegalHistoriesJoin = (start : TokenFields) (earlier : List Attempt) (middle : TokenFields) (later : List Attempt)
    → IsAfter start earlier middle → IsLegal middle later
    → IsLegal start (later ++ earlier) × AreAlike start (later ++ earlier) middle later

-- at most one reply is due to an attempt
abbrev pub AtMostOneReplyIsDue : Type 0
AtMostOneReplyIsDue = (start : TokenFields) (history : List Attempt) (moment : ℕ) (sent : CodeTexts) (reply other : Reply)
    → IsDueReply start history moment sent reply → IsDueReply start history moment sent other → reply ≡ other

-- at least one reply is due to every attempt
abbrev pub SomeReplyIsDue : Type 0
SomeReplyIsDue = (start : TokenFields) (history : List Attempt) (moment : ℕ) (sent : CodeTexts)
    → (reply : Reply) × IsDueReply start history moment sent reply
