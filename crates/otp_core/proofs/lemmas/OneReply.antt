-- At most one reply is due to an attempt.
use Rattle.std.proofs.Common.{◌≡◌, ◌≤◌, ◌<◌, ℕ, refl, ap, arith}
use Rattle.otp_core.specs.Laws.{AtMostOneReplyIsDue}
use Rattle.otp_core.specs.declared.token.reply.Reply.TheVariants.{Pass, Fail, Locked}

-- failures cannot both have reached the limit and be below it
reached_limit_is_not_below : (limit failures : ℕ) → limit ≤ failures → failures < limit → ⊥
reached_limit_is_not_below limit failures reached below = omega arith

-- the law: at most one reply is due to an attempt
pub at_most_one_reply_is_due : AtMostOneReplyIsDue
at_most_one_reply_is_due s h m sent Locked Locked x y = refl
at_most_one_reply_is_due s h m sent Locked Fail x y = absurd (reached_limit_is_not_below _ _ x y.0)
at_most_one_reply_is_due s h m sent Locked (Pass q) x y = absurd (reached_limit_is_not_below _ _ x y.0)
at_most_one_reply_is_due s h m sent Fail Locked x y = absurd (reached_limit_is_not_below _ _ y x.0)
at_most_one_reply_is_due s h m sent Fail Fail x y = refl
at_most_one_reply_is_due s h m sent Fail (Pass q) x y = absurd (x.1 q y.1)
at_most_one_reply_is_due s h m sent (Pass p) Locked x y = absurd (reached_limit_is_not_below _ _ y x.0)
at_most_one_reply_is_due s h m sent (Pass p) Fail x y = absurd (y.1 p x.1)
at_most_one_reply_is_due s h m sent (Pass p) (Pass q) x y =
    let up : p ≤ q = x.2 q y.1 in
    let down : q ≤ p = y.2 p x.1 in
    let same : p ≡ q = omega arith in ap (λ c. Pass c) same
