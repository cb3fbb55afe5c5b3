-- The least counter that fits what was sent: how it is found, and that the reply for it is the one that is due.
use Rattle.std.proofs.Common.{◌≡◌, ◌≤◌, ◌<◌, ◌+◌, ◌↔◌, ℕ, List, [], Option, None, Some, sym, subst, arith}
use Rattle.std.specs.Prelude.{IfSome}
use Rattle.otp_core.specs.Ranges.{max_counter}
use Rattle.otp_core.specs.Hash.{hotp_text_by}
use Rattle.otp_core.specs.Attempt.{CodeTexts}
use Rattle.otp_core.specs.Attempt.CodeTexts.{one_text, two_texts}
use Rattle.otp_core.specs.Window.{IsCandidate, IsInHotpWindow}
use Rattle.otp_core.specs.Reply.{IsFitting, IsDueReply, code_text, limit_of, failures_of}
use Rattle.otp_core.specs.inner.Passes.{IsOneOf, IsLeast, CanMoveTo, reply_of}
use Rattle.otp_core.specs.declared.hash.OtpHash.TheVariants.{Sha1}
use Rattle.otp_core.specs.declared.token.reply.Reply.{Reply}
use Rattle.otp_core.specs.declared.token.window.Counters.{Counters}
use Rattle.otp_core.specs.declared.token.kinds.HotpFields.{HotpFields}
use Rattle.otp_core.specs.declared.token.kinds.TokenFields.{TokenFields}
use Rattle.otp_core.specs.declared.token.kinds.TokenFields.TheVariants.{Hotp, Totp}

-- if two facts are true of the same counters, the least counter for one is the least for the other
least_is_least_of_alike : (P Q : ℕ → Type 0) → ((k : ℕ) → P k ↔ Q k) → (found : Option ℕ) → IsLeast P found → IsLeast Q found
least_is_least_of_alike P Q alike None none = λ k q. none k ((alike k).1 q)
least_is_least_of_alike P Q alike (Some c) (fits, least) = ((alike c).0 fits, λ k q. least k ((alike k).1 q))

-- the least candidate whose code is the text is the least counter that fits the text
pub least_candidate_fits : (token : TokenFields) (moment : ℕ) (counters : Counters) (text : List ℕ) (found : Option ℕ)
    → ((k : ℕ) → IsCandidate token [] moment k ↔ IsOneOf counters k)
    → IsLeast (λ c. IsOneOf counters c × (code_text token c ≡ text)) found
    → IsLeast (IsFitting token [] moment (one_text text)) found
least_candidate_fits token moment counters text found candidates least =
    least_is_least_of_alike (λ c. IsOneOf counters c × (code_text token c ≡ text)) (IsFitting token [] moment (one_text text))
    (λ k. (λ (among, code). ((candidates k).1 among, code), λ (can, code). ((candidates k).0 can, code))) found least

-- if these are the counters that can be the first of a pair, the second counter of the least pair among them that has the two texts is
-- the least counter that fits the two texts
pub least_pair_fits : (token : HotpFields) (moment : ℕ) (counters : Counters) (first second : List ℕ) (found : Option ℕ)
    → ((c : ℕ) → (IsInHotpWindow token.next token.sync_ahead c × (c + 1 ≤ max_counter)) ↔ IsOneOf counters c)
    → IsLeast (λ c. (first_counter : ℕ) × (c ≡ first_counter + 1) × IsOneOf counters first_counter
    × (hotp_text_by Sha1 token.digits token.secret first_counter ≡ first)
    × (hotp_text_by Sha1 token.digits token.secret (first_counter + 1) ≡ second)) found
    → IsLeast (IsFitting (Hotp token) [] moment (two_texts first second)) found
least_pair_fits token moment counters first second found candidates least =
    least_is_least_of_alike (λ c. (first_counter : ℕ) × (c ≡ first_counter + 1) × IsOneOf counters first_counter
    × (hotp_text_by Sha1 token.digits token.secret first_counter ≡ first)
    × (hotp_text_by Sha1 token.digits token.secret (first_counter + 1) ≡ second))
    (IsFitting (Hotp token) [] moment (two_texts first second))
    (λ k. (
      λ (first_counter, next, among, one, other). (first_counter, next, (candidates first_counter).1 among, one, other),
      λ (first_counter, next, can, one, other). (first_counter, next, (candidates first_counter).0 can, one, other),
    ))
    found least

-- a token can move to each counter that fits what was sent
fitting_counter_can_move : (token : TokenFields) (moment : ℕ) (sent : CodeTexts) (c : ℕ) → IsFitting token [] moment sent c
    → CanMoveTo token moment c
fitting_counter_can_move (Hotp t) moment (one_text text) c (can, code) = can.most
fitting_counter_can_move (Totp t) moment (one_text text) c (can, code) = can
fitting_counter_can_move (Hotp t) moment (two_texts first second) c (first_counter, next, pair, one, other) = omega (arith, next, pair.1)
fitting_counter_can_move (Totp t) moment (two_texts first second) c (first_counter, next, pair, one, other) = absurd pair

-- a token can move to the least counter that fits what was sent, if there is one
pub least_counter_can_move : (token : TokenFields) (moment : ℕ) (sent : CodeTexts) (found : Option ℕ)
    → IsLeast (IsFitting token [] moment sent) found → IfSome found (λ c. CanMoveTo token moment c)
least_counter_can_move token moment sent None none = tt
least_counter_can_move token moment sent (Some c) (fits, least) = fitting_counter_can_move token moment sent c fits

-- while a token is not locked, the reply for the least counter that fits what was sent, or for none, is due
pub reply_for_least_is_due : (token : TokenFields) (moment : ℕ) (sent : CodeTexts) (found : Option ℕ) (reply : Reply)
    → reply ≡ reply_of found → failures_of token < limit_of token → IsLeast (IsFitting token [] moment sent) found
    → IsDueReply token [] moment sent reply
reply_for_least_is_due token moment sent None reply is below none =
    subst (λ (r : Reply). IsDueReply token [] moment sent r) (sym is) (omega arith, none)
reply_for_least_is_due token moment sent (Some c) reply is below (fits, least) =
    subst (λ (r : Reply). IsDueReply token [] moment sent r) (sym is) (omega arith, fits, least)
