-- If a token is in its ranges, so is the counter of the reply that is due.
use Rattle.std.proofs.Common.{ℕ, ◌-◌, List, sym, subst, arith}
use Rattle.std.specs.declared.option.Option.TheVariants.{Some}
use Rattle.std.proofs.Math.Nat.{div-le_self}
use Rattle.otp_core.specs.Attempt.{Attempt, CodeTexts, one_text, two_texts}
use Rattle.otp_core.specs.Ranges.{IsMoment}
use Rattle.otp_core.specs.TokenRanges.{IsInRange}
use Rattle.otp_core.specs.Reply.{IsDueReply}
use Rattle.otp_core.specs.declared.token.reply.Reply.{Reply}
use Rattle.otp_core.specs.declared.token.reply.Reply.TheVariants.{Pass, Fail, Locked}
use Rattle.otp_core.specs.declared.token.kinds.TokenFields.{TokenFields}
use Rattle.otp_core.specs.declared.token.kinds.TokenFields.TheVariants.{Hotp, Totp}
use Rattle.log_grammar.specs.Lines.{IsReplyInRange}
use Rattle.log_grammar.specs.laws.Reasons.{DueRepliesCanBeWritten}

-- if a token is in its ranges, so is the reply that is due
due_reply_is_in_range : (token : TokenFields) (attempts : List Attempt) (moment : ℕ) (sent : CodeTexts) (reply : Reply) → IsInRange token
    → IsMoment moment → IsDueReply token attempts moment sent reply → IsReplyInRange (Some reply)
due_reply_is_in_range (Hotp t) attempts moment (one_text text) (Pass c) range at due = omega (arith, due.1.0.most)
due_reply_is_in_range (Hotp t) attempts moment (two_texts first second) (Pass c) range at due =
    omega (arith, due.1.1, due.1.2.1)
due_reply_is_in_range (Totp t) attempts moment (one_text text) (Pass w) range at due =
    let step = div-le_self (moment - t.t0) t.step in
    omega (arith, step, due.1.0.1.not_late, range.1.1.1.0.1, at)
due_reply_is_in_range (Totp t) attempts moment (two_texts first second) (Pass c) range at due = absurd due.1.2
due_reply_is_in_range token attempts moment sent Fail range at due = tt
due_reply_is_in_range token attempts moment sent Locked range at due = tt

-- the law: if a token and the moment are in their ranges, the reply that is due can be written
pub due_replies_can_be_written : DueRepliesCanBeWritten
due_replies_can_be_written token attempts moment sent due range at (reply, is, by) =
    subst IsReplyInRange (sym is) (due_reply_is_in_range token attempts moment sent reply range at by)
