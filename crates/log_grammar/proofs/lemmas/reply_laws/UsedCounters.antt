-- The counters that an account's codes use in a log rise.
use Rattle.std.proofs.Common.{◌≡◌, inl, inr, ℕ, ◌-◌, List, [], ◌∷◌, ◌++◌, reverse, sym, subst, arith, append-nil}
use Rattle.std.specs.declared.option.Option.{Option}
use Rattle.std.specs.declared.option.Option.TheVariants.{None, Some}
use Rattle.otp_core.specs.Attempt.{Attempt, CodeTexts, one_text, two_texts, used_in_reply, used_in}
use Rattle.otp_core.specs.Window.{IsAbove}
use Rattle.otp_core.specs.Reply.{IsDueReply, IsFitting}
use Rattle.otp_core.specs.declared.token.reply.Reply.{Reply}
use Rattle.otp_core.specs.declared.token.reply.Reply.TheVariants.{Pass, Fail, Locked}
use Rattle.otp_core.specs.declared.token.kinds.TokenFields.{TokenFields}
use Rattle.otp_core.proofs.lemmas.Used.{candidates_are_new}
use Rattle.account_book.specs.AccountAttempt.{AccountAttempt}
use Rattle.log_grammar.specs.Demands.{Accounts, attempts_by, attempts_of, IsReplyDueBy, demands, HaveDueReplies}
use Rattle.log_grammar.specs.laws.Replies.{AreRising, NoCounterIsUsedTwice}
use Rattle.log_grammar.proofs.lemmas.demands.RepliesDue.{first_reply_stands_last}
use Rattle.log_grammar.proofs.lemmas.demands.EachAccount.{account_is_same_or_other}
use Rattle.log_grammar.proofs.lemmas.reply_laws.Passed.{fitting_counter_is_above}

-- after a pass of a counter that can pass, the counters that an account's codes use still rise
pass_keeps_counters_rising : (token : TokenFields) (attempts : List Attempt) (t : AccountAttempt) (c : ℕ)
    → IsFitting token attempts t.moment t.sent c → AreRising (used_in attempts)
    → AreRising (used_in (attempts_by t (Some (Pass c)) attempts))
pass_keeps_counters_rising token attempts t c fits rising = by_sent t.sent fits
  where
    by_sent : (sent : CodeTexts) → IsFitting token attempts t.moment sent c → AreRising (used_in_reply sent (Pass c) ++ used_in attempts)
    by_sent (one_text text) fits = (fitting_counter_is_above token attempts t.moment (one_text text) c fits, rising)
    by_sent (two_texts first second) fits =
        let before : c - 1 ≡ fits.0 = omega (arith, fits.1) in
        let above = fitting_counter_is_above token attempts t.moment (two_texts first second) c fits in
        let first_above = subst (IsAbove (used_in attempts)) (sym before)
        (candidates_are_new token attempts t.moment fits.0 (inr fits.2)) in
        ((omega (arith, fits.1), above), (first_above, rising))

-- after a reply that is due by a token, the counters that an account's codes use still rise
reply_keeps_counters_rising : (token : TokenFields) (attempts : List Attempt) (t : AccountAttempt) (reply : Reply)
    → IsDueReply token attempts t.moment t.sent reply → AreRising (used_in attempts)
    → AreRising (used_in (attempts_by t (Some reply) attempts))
reply_keeps_counters_rising token attempts t (Pass c) due rising = pass_keeps_counters_rising token attempts t c due.1 rising
reply_keeps_counters_rising token attempts t Fail due rising = rising
reply_keeps_counters_rising token attempts t Locked due rising = rising

-- after a reply that is due by an optional token, the counters that an account's codes use still rise
due_reply_keeps_counters_rising : (o : Option TokenFields) (attempts : List Attempt) (t : AccountAttempt)
    → IsReplyDueBy o attempts t.moment t.sent t.reply → AreRising (used_in attempts)
    → AreRising (used_in (attempts_by t t.reply attempts))
due_reply_keeps_counters_rising None attempts t due rising =
    subst (λ (r : Option Reply). AreRising (used_in (attempts_by t r attempts))) (sym due) rising
due_reply_keeps_counters_rising (Some token) attempts t due rising =
    subst (λ (r : Option Reply). AreRising (used_in (attempts_by t r attempts))) (sym due.1)
    (reply_keeps_counters_rising token attempts t due.0 due.2 rising)

-- after a reply that is due to any account, the counters that an account's codes use still rise
told_reply_keeps_counters_rising : (accounts : Accounts) (account : List ℕ) (before : List AccountAttempt) (t : AccountAttempt)
    → (demands accounts).replied before t → AreRising (used_in (attempts_of account before))
    → AreRising (used_in (attempts_of account (t ∷ before)))
told_reply_keeps_counters_rising accounts account before t due rising = elim (account_is_same_or_other t account) [
  | inl is ↦
      let here = subst (λ (a : List ℕ). IsReplyDueBy (accounts.token t.account)
      (attempts_of a before) t.moment t.sent t.reply) is.0 due in
      rw is.1 (due_reply_keeps_counters_rising (accounts.token t.account) (attempts_of account before) t here rising)
  | inr other ↦ rw other.0 rising
]

-- the counters that an account's codes use still rise after more replies that are due, if they rose before
pub replies_keep_counters_rising : (accounts : Accounts) (account : List ℕ) (before told : List AccountAttempt)
    → HaveDueReplies (demands accounts) before told → AreRising (used_in (attempts_of account before))
    → AreRising (used_in (attempts_of account (reverse told ++ before)))
replies_keep_counters_rising accounts account before [] are rising = rising
replies_keep_counters_rising accounts account before (t ∷ told) are rising =
    subst (λ (l : List AccountAttempt). AreRising (used_in (attempts_of account l))) (sym (first_reply_stands_last t told before))
    (replies_keep_counters_rising accounts account (t ∷ before) told are.1 (told_reply_keeps_counters_rising accounts account before
    t are.0 rising))

-- the law: the counters that an account's codes use in a log rise, so that none is used twice
pub no_counter_is_used_twice : NoCounterIsUsedTwice
no_counter_is_used_twice accounts log place told account (inl nothing) =
    subst (λ (l : List AccountAttempt). AreRising (used_in (attempts_of account (reverse l)))) (sym nothing.2) tt
no_counter_is_used_twice accounts log place told account (inr s) =
    subst (λ (l : List AccountAttempt). AreRising (used_in (attempts_of account l))) (append-nil (reverse told))
    (replies_keep_counters_rising accounts account [] told s.replies tt)
