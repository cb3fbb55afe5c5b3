-- What a keeper did with a code: the reply was the one due, and in its range; and a store that failed in a save.
use Rattle.std.proofs.Common.{◌≡◌, ◌≤◌, inl, inr, ℕ, true, false, List, refl, sym, ◌∙◌}
use Rattle.std.specs.Prelude.{MatchOption}
use Rattle.std.specs.declared.option.Option.{Option}
use Rattle.std.specs.declared.option.Option.TheVariants.{None, Some}
use Rattle.std.proofs.lemmas.Bool.{false≢true}
use Rattle.otp_core.specs.Ranges.{max_counter}
use Rattle.otp_core.specs.declared.token.reply.Reply.{Reply}
use Rattle.otp_core.specs.declared.token.reply.Reply.TheVariants.{Pass, Fail, Locked}
use Rattle.otp_core.specs.Attempt.{CodeTexts}
use Rattle.otp_core.specs.declared.token.kinds.TokenFields.{TokenFields}
use Rattle.account_book.specs.{BookFields}
use Rattle.account_book.specs.Store.{StoreFacts, IsFailedSave, IsNotSaved}
use Rattle.account_book.specs.Tokens.{token_at, ChangesToken, IsBookAttempt}
use Rattle.account_book.specs.AccountAttempt.{AccountAttempt}
use Rattle.log_grammar.specs.Lines.{IsReplyInRange}

-- if the counter of a reply that passes is at most the largest, the reply is in its range
counter_gives_reply_range : (reply : Reply) → ((c : ℕ) → reply ≡ Pass c → c ≤ max_counter) → IsReplyInRange (Some reply)
counter_gives_reply_range (Pass counter) most = most counter refl
counter_gives_reply_range Fail most = tt
counter_gives_reply_range Locked most = tt

-- what an attempt of an account with this token, or with none, is answered is in its range
answer_of_token_is_in_range : (o : Option TokenFields) (old new : BookFields) (name : List ℕ) (moment : ℕ) (sent : CodeTexts)
    (answer : Option Reply)
    → MatchOption o ((answer ≡ None) × (new ≡ old))
    (λ token. (reply : Reply) × (answer ≡ Some reply) × ChangesToken old name token moment sent reply new) → IsReplyInRange answer
answer_of_token_is_in_range None old new name moment sent answer (same, stays) = rw same tt
answer_of_token_is_in_range (Some token) old new name moment sent answer (reply, same, attempt) =
    rw same (counter_gives_reply_range reply attempt.judged.counter)

-- the reply of an attempt that was judged is in its range
pub judged_reply_is_in_range : (old : BookFields) (t : AccountAttempt) (new : BookFields) → IsBookAttempt old t new
    → IsReplyInRange t.reply
judged_reply_is_in_range old t new one =
    answer_of_token_is_in_range (token_at old t.account) old new t.account t.moment t.sent t.reply one.answered

-- a store that had not failed, and has failed now, failed in this save
pub store_failed_in_this_save : (was now : StoreFacts) (text : List ℕ) → was.failed ≡ false
    → IsNotSaved was text now
    → IsFailedSave was text now
store_failed_in_this_save was now text working (inl (failed, same)) = absurd (false≢true (sym working ∙ failed))
store_failed_in_this_save was now text working (inr lost) = lost

-- a store that failed in a save, or had failed before, has failed
pub lost_store_has_failed : (was now : StoreFacts) (text : List ℕ) → IsNotSaved was text now
    → now.failed ≡ true
lost_store_has_failed was now text (inl (failed, same)) = rw same failed
lost_store_has_failed was now text (inr lost) = lost.failed
