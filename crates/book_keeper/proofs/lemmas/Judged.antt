-- What a keeper did with a code: the attempt was judged, and kept.
use Rattle.std.proofs.Common.{◌≡◌, ◌≢◌, ℕ, true, List, refl, sym, ap, ◌∙◌}
use Rattle.std.specs.declared.option.Option.TheVariants.{Some}
use Rattle.otp_core.specs.Attempt.{CodeTexts}
use Rattle.otp_core.specs.Ranges.{IsMoment}
use Rattle.otp_core.specs.State.{after_reply}
use Rattle.otp_core.specs.TokenAttempt.{IsTokenAttempt}
use Rattle.otp_core.specs.declared.token.reply.Reply.{Reply}
use Rattle.otp_core.specs.declared.token.reply.Reply.TheVariants.{Pass, Fail, Locked}
use Rattle.otp_core.specs.declared.token.kinds.TokenFields.{TokenFields}
use Rattle.account_book.specs.{BookFields}
use Rattle.account_book.specs.AccountAttempt.{account_attempt_of}
use Rattle.account_book.specs.Accounts.{IsChanged, with_changed}
use Rattle.account_book.specs.SavedBooks.{needs_save}
use Rattle.account_book.specs.Store.{StoreFacts}
use Rattle.account_book.specs.Tokens.{token_at, with_token, IsBookAttempt}
use Rattle.account_book.proofs.lemmas.Tokens.{tokens_stay}
use Rattle.book_keeper.specs.Keeper.{IsSavedIfDue, IsSavingReplyDue}

-- an attempt that an account's token judged is judged in the book: the reply is the token's, and the new book has the token after it
pub token_attempt_is_judged : (old new : BookFields) (name : List ℕ) (token now : TokenFields) (moment : ℕ) (sent : CodeTexts)
    (reply : Reply)
    → IsMoment moment
    → token_at old name ≡ Some token → IsTokenAttempt token moment sent reply now → IsChanged old name (with_token now) new
    → IsBookAttempt old (account_attempt_of name moment sent (Some reply)) new
token_attempt_is_judged old new name token now moment sent reply is has attempt put =
    record { is_moment = is; answered = rw has (reply, refl, record { next = now; judged = attempt; kept = put }) }

-- a reply other than LOCKED needs a save
reply_but_locked_needs_save : (reply : Reply) → reply ≢ Locked → needs_save (Some reply) ≡ true
reply_but_locked_needs_save (Pass counter) apart = refl
reply_but_locked_needs_save Fail apart = refl
reply_but_locked_needs_save Locked apart = absurd (apart refl)

-- an attempt that an account's token judged, and did not answer by LOCKED, is due a reply that needs a save
pub saving_reply_is_due : (old new : BookFields) (name : List ℕ) (token now : TokenFields) (moment : ℕ) (sent : CodeTexts)
    (reply : Reply)
    → IsMoment moment
    → token_at old name ≡ Some token → IsTokenAttempt token moment sent reply now → reply ≢ Locked
    → IsChanged old name (with_token now) new → IsSavingReplyDue name moment sent old new
saving_reply_is_due old new name token now moment sent reply is has attempt apart put =
    (Some reply, reply_but_locked_needs_save reply apart, token_attempt_is_judged old new name token now moment sent reply is has attempt put)

-- an attempt that LOCKED answers is judged and kept, and the book and the store stay as they were
pub locked_attempt_is_judged : (IsStored : List ℕ → Type 0) (old : BookFields) (name : List ℕ) (token now : TokenFields) (moment : ℕ)
    (sent : CodeTexts)
    (reply : Reply) → IsMoment moment
    → token_at old name ≡ Some token → IsTokenAttempt token moment sent reply now → reply ≡ Locked → (was : StoreFacts)
    → IsBookAttempt old (account_attempt_of name moment sent (Some reply)) old
    × IsSavedIfDue IsStored (needs_save (Some reply)) old was old was
locked_attempt_is_judged IsStored old name token now moment sent reply is has attempt locked was =
    let same : now ≡ token = attempt.state ∙ ap (after_reply token moment) locked in
    let stays : old ≡ with_changed old name (with_token now) =
    sym (ap (λ (t : TokenFields). with_changed old name (with_token t)) same ∙ tokens_stay old name token has) in
    (token_attempt_is_judged old old name token now moment sent reply is has attempt stays, rw locked (refl, refl))
