-- What is spent stays spent when a token is unlocked, and when an account is added.
use Rattle.std.proofs.Common.{◌≡◌, ◌<◌, ℕ, List, [], ◌∷◌, Option, inl, inr, refl, sym, ap, subst, arith, ◌∙◌}
use Rattle.std.specs.Prelude.{option_and_then}
use Rattle.std.specs.Str.{bytes_eq}
use Rattle.std.specs.declared.option.Option.TheVariants.{None, Some}
use Rattle.std.proofs.lemmas.Bool.{cases_Bool}
use Rattle.std.proofs.lemmas.Slice.Eq.{bytes_eq-Decides}
use Rattle.std.proofs.lemmas.Option.{same_Some}
use Rattle.otp_core.specs.Attempt.{Attempt, CodeTexts, one_text, two_texts, attempt_of}
use Rattle.otp_core.specs.Ranges.{IsMoment}
use Rattle.otp_core.specs.Reply.{IsDueReply}
use Rattle.otp_core.specs.History.{IsLegal}
use Rattle.otp_core.specs.State.{unlocked}
use Rattle.otp_core.specs.declared.token.reply.Reply.{Reply}
use Rattle.otp_core.specs.declared.token.reply.Reply.TheVariants.{Pass}
use Rattle.otp_core.specs.declared.token.kinds.TokenFields.{TokenFields}
use Rattle.otp_core.specs.declared.token.kinds.TokenFields.TheVariants.{Hotp, Totp}
use Rattle.otp_core.specs.Window.{CanPass}
use Rattle.otp_core.proofs.lemmas.AfterReply.{IsNoPass}
use Rattle.otp_core.proofs.lemmas.Used.{candidates_are_new}
use Rattle.account_book.specs.{AccountFields, BookFields}
use Rattle.account_book.specs.Accounts.{account_at, with_account, with_changed, IsAdded}
use Rattle.account_book.specs.Tokens.{token_at, with_token, IsUnlocked}
use Rattle.account_book.specs.Spent.{IsBelow, IsCounterSpent, AreSpent}
use Rattle.account_book.proofs.lemmas.Maps.{added_is_apart}
use Rattle.account_book.proofs.lemmas.Tokens.{tokens_are_apart}
use Rattle.sasl_desk.proofs.lemmas.Lists.{each_follows}

-- a counter is below each that can pass after a history
abbrev IsBelowAfter : TokenFields → List Attempt → ℕ → Type 0
IsBelowAfter token history counter = (moment c : ℕ) → IsMoment moment → CanPass token history moment c → counter < c

-- what can pass after a reply that is no PASS could pass before it
no_pass_admits_no_more : (token : TokenFields) (before : List Attempt) (at : ℕ) (sent : CodeTexts) (reply : Reply) (moment c : ℕ)
    → IsNoPass reply → CanPass token (attempt_of at sent reply ∷ before) moment c → CanPass token before moment c
no_pass_admits_no_more token before at sent (Pass w) moment c none can = absurd none
no_pass_admits_no_more (Hotp t) before at sent reply moment c none can = can
no_pass_admits_no_more (Totp t) before at sent reply moment c none can = can

-- a counter below each that can pass before an attempt is below each that can pass after it
attempt_keeps_below : (token : TokenFields) (counter : ℕ) (before : List Attempt) (at : ℕ) (sent : CodeTexts)
    (reply : Reply)
    → IsMoment at → IsDueReply token before at sent reply → IsBelowAfter token before counter
    → IsBelowAfter token (attempt_of at sent reply ∷ before) counter
attempt_keeps_below token counter before at (one_text text) (Pass w) is due below moment c later can =
    let passed : counter < w = below at w is (inl due.1.0) in
    let apart = (candidates_are_new token (attempt_of at (one_text text) (Pass w) ∷ before) moment c can).0 in omega (arith, passed, apart)
attempt_keeps_below token counter before at (two_texts first second) (Pass w) is due below moment c later can =
    let (first_one, next, can_pair, one, other) = due.1 in
    let passed : counter < first_one = below at first_one is (inr can_pair) in
    let apart = (candidates_are_new token (attempt_of at (two_texts first second) (Pass w) ∷ before) moment c can).0 in
    omega (arith, passed, next, apart)
attempt_keeps_below token counter before at sent reply is due below moment c later can =
    below moment c later (no_pass_admits_no_more token before at sent reply moment c tt can)

-- a counter below each that can pass now is below each that can pass ever
history_keeps_below : (token : TokenFields) (counter : ℕ) → IsBelowAfter token [] counter → (history : List Attempt)
    → IsLegal token history
    → IsBelowAfter token history counter
history_keeps_below token counter below [] legal = below
history_keeps_below token counter below (a ∷ before) legal =
    attempt_keeps_below token counter before a.moment a.sent a.reply legal.0 legal.1
    (history_keeps_below token counter below before legal.2)

-- what can pass in an unlocked token could pass before: failures have no part in it
unlocked_admits_no_more : (token : TokenFields) (moment c : ℕ) → CanPass (unlocked token) [] moment c → CanPass token [] moment c
unlocked_admits_no_more (Hotp t) moment c can = can
unlocked_admits_no_more (Totp t) moment c can = can

-- a counter below each that can pass is so after the token is unlocked
unlocked_token_keeps_below : (token : TokenFields) (counter : ℕ) → IsBelow token counter
    → IsBelow (unlocked token) counter
unlocked_token_keeps_below token counter below history moment c is legal can =
    history_keeps_below (unlocked token) counter (λ m k at now. below [] m k at tt (unlocked_admits_no_more token m k now))
    history legal moment c is can

-- when the token of one account is unlocked, a counter that is spent stays so
unlocked_token_keeps_spent_counter : (old : BookFields) (name : List ℕ) (token : TokenFields)
    → token_at old name ≡ Some token
    → (other : List ℕ) (counter : ℕ) → IsCounterSpent old other counter
    → IsCounterSpent (with_changed old name (with_token (unlocked token))) other counter
unlocked_token_keeps_spent_counter old name token has other counter used =
    let now = tokens_are_apart old name token (unlocked token) has other in
    elim (cases_Bool (bytes_eq name other)) [
      | inl is ↦
          let names : name ≡ other = (bytes_eq-Decides name other).0 is in
          let same : used.token ≡ token = same_Some used.token token (sym used.has ∙ (sym (ap (token_at old) names) ∙ has)) in
          record {
            token = unlocked token;
            has = rw is at now;
            below = unlocked_token_keeps_below token counter (subst (λ (t : TokenFields). IsBelow t counter) same used.below);
          }
      | inr not ↦
          let same : token_at (with_changed old name (with_token (unlocked token))) other ≡ token_at old other = rw not at now in
          record { token = used.token; has = same ∙ used.has; below = used.below }
    ]

-- a counter that is spent stays so after the book's account is unlocked, if it has a token
unlock_keeps_spent_counter : (old new : BookFields) (name : List ℕ) (o : Option TokenFields)
    → token_at old name ≡ o
    → IsUnlocked old name new
    → (other : List ℕ) (counter : ℕ) → IsCounterSpent old other counter → IsCounterSpent new other counter
unlock_keeps_spent_counter old new name None has changed other counter used =
    let same : new ≡ old = rw has at changed in subst (λ (b : BookFields). IsCounterSpent b other counter) (sym same) used
unlock_keeps_spent_counter old new name (Some token) has changed other counter used =
    let is = rw has at changed in
    subst (λ (b : BookFields). IsCounterSpent b other counter) (sym is)
    (unlocked_token_keeps_spent_counter old name token has other counter used)

-- what was spent stays spent when a token is unlocked
pub unlock_keeps_spent_counters : (old new : BookFields) (name : List ℕ) (ps : List (List ℕ × ℕ))
    → IsUnlocked old name new
    → AreSpent ps old → AreSpent ps new
unlock_keeps_spent_counters old new name ps changed spent = record {
  different = spent.different;
  spent = each_follows (λ p. IsCounterSpent old p.0 p.1) (λ p. IsCounterSpent new p.0 p.1)
      (λ p used. unlock_keeps_spent_counter old new name (token_at old name) refl changed p.0 p.1 used) ps spent.spent;
}

-- an account that has a token is not free
token_is_not_free : (o : Option AccountFields) (token : TokenFields) → o ≡ None → option_and_then (λ account. account.token) o ≡ Some token
    → ⊥
token_is_not_free None token free has = cc has
token_is_not_free (Some account) token free has = cc free

-- when an account is added, a counter that is spent stays so
addition_keeps_spent_counter : (old : BookFields) (name : List ℕ) (account : AccountFields) → account_at old name ≡ None
    → (other : List ℕ) (counter : ℕ) → IsCounterSpent old other counter → IsCounterSpent (with_account old name account) other counter
addition_keeps_spent_counter old name account free other counter used =
    let now = added_is_apart old name account other in
    elim (cases_Bool (bytes_eq name other)) [
      | inl is ↦
          let names : name ≡ other = (bytes_eq-Decides name other).0 is in
          absurd (token_is_not_free (account_at old other) used.token (subst (λ (n : List ℕ). account_at old n ≡ None) names free) used.has)
      | inr not ↦
          let same : account_at (with_account old name account) other ≡ account_at old other = rw not at now in
          record { token = used.token; has = ap (option_and_then (λ a. a.token)) same ∙ used.has; below = used.below }
    ]

-- when an account is added, counters that are spent stay so
pub addition_keeps_spent_counters : (old new : BookFields) (name : List ℕ) (account : AccountFields) (ps : List (List ℕ × ℕ))
    → IsAdded old name account new → AreSpent ps old → AreSpent ps new
addition_keeps_spent_counters old new name account ps is spent = record {
  different = spent.different;
  spent = each_follows (λ p. IsCounterSpent old p.0 p.1) (λ p. IsCounterSpent new p.0 p.1)
      (λ p used. subst (λ (b : BookFields). IsCounterSpent b p.0 p.1) (sym is.added)
      (addition_keeps_spent_counter old name account is.free p.0 p.1 used)) ps spent.spent;
}
