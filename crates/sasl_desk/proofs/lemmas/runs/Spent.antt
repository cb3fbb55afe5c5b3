-- What was spent stays spent.
use Rattle.std.proofs.Common.{◌≡◌, ◌≢◌, ◌<◌, ◌≤◌, ◌-◌, ℕ, List, [], ◌∷◌, ◌++◌, Option, inl, inr, refl, sym, ap, subst, arith, ◌∙◌}
use Rattle.std.specs.List.{AllByRecursion}
use Rattle.std.specs.declared.option.Option.TheVariants.{None, Some}
use Rattle.std.proofs.lemmas.Slice.Eq.{bytes_eq-Decides}
use Rattle.std.proofs.lemmas.Option.{same_Some}
use Rattle.otp_core.specs.Attempt.{Attempt, CodeTexts, one_text, two_texts, used_in, used_in_reply, attempt_of}
use Rattle.otp_core.specs.Ranges.{IsMoment}
use Rattle.otp_core.specs.Window.{IsAbove, CanPass}
use Rattle.otp_core.specs.Reply.{IsFitting, IsDueReply}
use Rattle.otp_core.specs.History.{IsAfter, IsLegal}
use Rattle.otp_core.specs.declared.token.reply.Reply.{Reply}
use Rattle.otp_core.specs.declared.token.reply.Reply.TheVariants.{Pass, Fail, Locked}
use Rattle.otp_core.specs.declared.token.kinds.TokenFields.{TokenFields}
use Rattle.otp_core.proofs.lemmas.Joins.{legal_histories_join}
use Rattle.otp_core.proofs.lemmas.Used.{candidates_are_new}
use Rattle.account_book.specs.{BookFields}
use Rattle.account_book.specs.Tokens.{token_at}
use Rattle.account_book.specs.AccountAttempt.{AccountAttempt, account_attempt_of}
use Rattle.account_book.specs.Spent.{IsBelow, IsCounterSpent, AreSpent, used_by_reply, of_account, SpentStaysSpent}
use Rattle.log_grammar.specs.Books.{accounts_in}
use Rattle.log_grammar.specs.Demands.{attempts_of, IsReplyDueBy}
use Rattle.log_grammar.proofs.lemmas.ListEnds.{front_keeps_all, back_keeps_all}
use Rattle.sasl_log.specs.inner.Tokens.{LeadsTo, IsBookAfter}
use Rattle.sasl_log.proofs.lemmas.audits.AuditedLineByLine.{book_follows_no_replies}
use Rattle.sasl_log.proofs.lemmas.steps.Tokens.{book_reply_is_due, book_follows_attempt}
use Rattle.sasl_desk.proofs.lemmas.Lists.{each_follows}

-- attempts that lead from a token lead to a token after them
attempts_lead_to_token : (start : TokenFields) (attempts : List Attempt) (o : Option TokenFields) → LeadsTo (Some start) attempts o
    → (token : TokenFields) × (o ≡ Some token) × IsAfter start attempts token
attempts_lead_to_token start attempts None leads = absurd leads
attempts_lead_to_token start attempts (Some token) leads = (token, refl, leads)

-- a token after attempts
module _ (start : TokenFields) (attempts : List Attempt) (token : TokenFields)
    (after : IsAfter start attempts token) where
  -- a counter that can pass after a legal history of it can pass after that history and the attempts before it of the first token
  later_candidate_was_candidate : (history : List Attempt) (moment c : ℕ) → IsMoment moment → IsLegal token history
      → CanPass token history moment c → IsLegal start (history ++ attempts) × CanPass start (history ++ attempts) moment c
  later_candidate_was_candidate history moment c is legal can =
      let joined = legal_histories_join start attempts token history after legal in
      (joined.0, elim can [ inl h ↦ inl ((joined.1.candidates moment c is).1 h) | inr h ↦ inr ((joined.1.pairs c).1 h) ])

  -- a counter that was below each that could pass is below each that can pass after attempts
  attempts_keep_below : (counter : ℕ) → IsBelow start counter → IsBelow token counter
  attempts_keep_below counter below history moment c is legal can =
      let before = later_candidate_was_candidate history moment c is legal can in
      below (history ++ attempts) moment c is before.0 before.1

-- what is above the counters of some attempts is above those of the earlier of them
above_all_is_above_earlier : (later earlier : List Attempt) (c : ℕ) → IsAbove (used_in (later ++ earlier)) c → IsAbove (used_in earlier) c
above_all_is_above_earlier [] earlier c above = above
above_all_is_above_earlier (a ∷ later) earlier c above =
    above_all_is_above_earlier later earlier c (back_keeps_all (λ (used : ℕ). used < c) (used_in_reply a.sent a.reply)
    (used_in (later ++ earlier)) above)

-- what can pass after an attempt is above each counter that the attempt used
candidate_is_above_used : (start : TokenFields) (a : Attempt) (token : TokenFields)
    → IsAfter start (a ∷ []) token
    → (history : List Attempt) (moment c : ℕ) → IsMoment moment → IsLegal token history
    → CanPass token history moment c → IsAbove (used_in_reply a.sent a.reply) c
candidate_is_above_used start a token after history moment c is legal can =
    let before = later_candidate_was_candidate start (a ∷ []) token after history moment c is legal can in
    front_keeps_all (λ (used : ℕ). used < c) (used_in_reply a.sent a.reply) []
    (above_all_is_above_earlier history (a ∷ []) c (candidates_are_new start (history ++ a ∷ []) moment c before.1))

-- the attempts that an account's own reply adds are that one
reply_is_one_attempt : (t : AccountAttempt) (r : Reply) → t.reply ≡ Some r
    → attempts_of t.account (t ∷ []) ≡ attempt_of t.moment t.sent r ∷ []
reply_is_one_attempt t r is = rw ((bytes_eq-Decides t.account t.account).1 refl, is) refl

-- a counter that is at least one that could pass is none of those that are spent
counter_above_candidate_is_not_spent : (old : BookFields) (name : List ℕ) (start : TokenFields) (counter c moment : ℕ)
    → token_at old name ≡ Some start
    → IsMoment moment
    → CanPass start [] moment c → c ≤ counter
    → (q : List ℕ × ℕ) → IsCounterSpent old q.0 q.1 → (name, counter) ≢ q
counter_above_candidate_is_not_spent old name start counter c moment has is can at (other, used) up same =
    let names : name ≡ other = ap (λ (p : List ℕ × ℕ). p.0) same in
    let counters : counter ≡ used = ap (λ (p : List ℕ × ℕ). p.1) same in
    let tokens : start ≡ up.token = same_Some start up.token (sym has ∙ (ap (token_at old) names ∙ up.has)) in
    let apart : used < c =
    up.below [] moment c is tt (subst (λ (token : TokenFields). CanPass token [] moment c) tokens can) in
    omega (arith, apart, at, counters)

-- a book before and after one more reply
module _ (old new : BookFields) (t : AccountAttempt) (after : IsBookAfter (accounts_in old) (t ∷ []) new) where
  -- a counter that is spent stays so when one more reply is given
  reply_keeps_spent_counter : (name : List ℕ) (counter : ℕ) → IsCounterSpent old name counter → IsCounterSpent new name counter
  reply_keeps_spent_counter name counter used =
      let leads = subst (λ (o : Option TokenFields). LeadsTo o (attempts_of name (t ∷ [])) (token_at new name)) used.has
      (after.tokens name) in
      let later = attempts_lead_to_token used.token (attempts_of name (t ∷ [])) (token_at new name) leads in
      record { token = later.0; has = later.1; below = attempts_keep_below used.token _ later.0 later.2 counter used.below }

  -- counters that are spent stay so when one more reply is given
  reply_keeps_spent_counters : (ps : List (List ℕ × ℕ)) → AreSpent ps old → AreSpent ps new
  reply_keeps_spent_counters ps spent = record {
    different = spent.different;
    spent = each_follows (λ p. IsCounterSpent old p.0 p.1) (λ p. IsCounterSpent new p.0 p.1)
        (λ p used. reply_keeps_spent_counter p.0 p.1 used) ps spent.spent;
  }

-- a pass of an account that has a token: what was spent before it, and the counter
module _ (old new : BookFields) (name : List ℕ) (moment : ℕ) (start : TokenFields)
    (has : token_at old name ≡ Some start) (is : IsMoment moment) (ps : List (List ℕ × ℕ)) (spent : AreSpent ps old) (c : ℕ) where
  -- after a pass the account still has a token, and what can pass with it is above the counters that the pass used
  pass_leaves_higher_candidates : (sent : CodeTexts)
      → IsBookAfter (accounts_in old) (account_attempt_of name moment sent (Some (Pass c)) ∷ []) new
      → (token : TokenFields) × (token_at new name ≡ Some token)
      × ((history : List Attempt) (later k : ℕ) → IsMoment later → IsLegal token history
      → CanPass token history later k → IsAbove (used_in_reply sent (Pass c)) k)
  pass_leaves_higher_candidates sent after =
      let t = account_attempt_of name moment sent (Some (Pass c)) in
      let a = attempt_of moment sent (Pass c) in
      let leads = subst (λ (o : Option TokenFields). LeadsTo o (attempts_of name (t ∷ [])) (token_at new name)) has (after.tokens name) in
      let by_attempt = subst (λ (attempts : List Attempt). LeadsTo (Some start) attempts (token_at new name))
      (reply_is_one_attempt t (Pass c) refl) leads in
      let later = attempts_lead_to_token start (a ∷ []) (token_at new name) by_attempt in
      (later.0, later.1, candidate_is_above_used start a later.0 later.2)

  -- before a pass, no counter that is at least one that could pass was spent
  counter_above_candidate_was_not_spent : (counter passed : ℕ) → CanPass start [] moment passed → passed ≤ counter
      → AllByRecursion (λ q. (name, counter) ≢ q) ps
  counter_above_candidate_was_not_spent counter passed can at =
      each_follows (λ p. IsCounterSpent old p.0 p.1) (λ q. (name, counter) ≢ q)
      (counter_above_candidate_is_not_spent old name start counter passed moment has is can at) ps spent.spent

  -- the counter of a pass of one code is spent after it
  code_pass_spends_counter : (text : List ℕ) → IsFitting start [] moment (one_text text) c
      → IsBookAfter (accounts_in old) (account_attempt_of name moment (one_text text) (Some (Pass c)) ∷ []) new
      → AreSpent ((name, c) ∷ ps) new
  code_pass_spends_counter text fits after =
      let token = pass_leaves_higher_candidates (one_text text) after in
      let stays = reply_keeps_spent_counters old new _ after ps spent in
      record {
        different = (counter_above_candidate_was_not_spent c c (inl fits.0) (omega arith), spent.different);
        spent = (
          record { token = token.0; has = token.1; below = λ history later k at legal can. (token.2 history later k at legal can).0 },
          stays.spent,
        );
      }

  -- both counters of a pass of two codes in a row are spent after it
  pair_pass_spends_counters : (first second : List ℕ) → IsFitting start [] moment (two_texts first second) c
      → IsBookAfter (accounts_in old) (account_attempt_of name moment (two_texts first second) (Some (Pass c)) ∷ []) new
      → AreSpent ((name, c) ∷ (name, c - 1) ∷ ps) new
  pair_pass_spends_counters first second (w, next, can, one, two) after =
      let token = pass_leaves_higher_candidates (two_texts first second) after in
      let stays = reply_keeps_spent_counters old new _ after ps spent in
      let greater = counter_above_candidate_was_not_spent c w (inr can) (omega (arith, next)) in
      let lesser = counter_above_candidate_was_not_spent (c - 1) w (inr can) (omega (arith, next)) in
      let apart : (name, c) ≢ (name, c - 1) = λ same. let counters : c
      ≡ c - 1 = ap (λ (p : List ℕ × ℕ). p.1) same in omega (arith, counters, next) in
      record {
        different = ((apart, greater), (lesser, spent.different));
        spent = (
          record { token = token.0; has = token.1; below = λ history later k at legal can. (token.2 history later k at legal can).0 },
          (
            record {
              token = token.0;
              has = token.1;
              below = λ history later k at legal can. (token.2 history later k at legal can).1.0;
            },
            stays.spent,
          ),
        );
      }

-- a reply that is due to an account with a token, before any attempt, is due by the token
reply_by_token_is_due : (start : TokenFields) (moment : ℕ) (sent : CodeTexts) (r : Reply)
    → IsReplyDueBy (Some start) [] moment sent (Some r)
    → IsDueReply start [] moment sent r
reply_by_token_is_due start moment sent r (reply, same, due) = subst (λ (x : Reply). IsDueReply start [] moment sent x)
    (sym (same_Some r reply same)) due

-- no reply is due to an account without a token
no_reply_without_token : (moment : ℕ) (sent : CodeTexts) (r : Reply) → IsReplyDueBy None [] moment sent (Some r) → ⊥
no_reply_without_token moment sent r same = cc

module _ (old new : BookFields) (name : List ℕ) (moment : ℕ) (is : IsMoment moment)
    (ps : List (List ℕ × ℕ)) (spent : AreSpent ps old) where
  -- after a reply that is due, what it used is spent, and what was spent before
  due_reply_spends_counters : (sent : CodeTexts) (reply : Option Reply) (o : Option TokenFields) → token_at old name ≡ o
      → IsReplyDueBy o [] moment sent reply → IsBookAfter (accounts_in old) (account_attempt_of name moment sent reply ∷ []) new
      → AreSpent (of_account name (used_by_reply sent reply) ++ ps) new
  due_reply_spends_counters sent None o has due after = reply_keeps_spent_counters old new _ after ps spent
  due_reply_spends_counters sent (Some Fail) o has due after = reply_keeps_spent_counters old new _ after ps spent
  due_reply_spends_counters sent (Some Locked) o has due after = reply_keeps_spent_counters old new _ after ps spent
  due_reply_spends_counters sent (Some (Pass c)) None has due after = absurd (no_reply_without_token moment sent (Pass c) due)
  due_reply_spends_counters (one_text text) (Some (Pass c)) (Some start) has due after =
      code_pass_spends_counter old new name moment start has is ps spent c text
      (reply_by_token_is_due start moment (one_text text) (Pass c) due).1 after
  due_reply_spends_counters (two_texts first second) (Some (Pass c)) (Some start) has due after =
      pair_pass_spends_counters old new name moment start has is ps spent c first second
      (reply_by_token_is_due start moment (two_texts first second) (Pass c) due).1 after

-- the law: what was spent stays spent over each attempt that was judged
pub spent_stays_spent : SpentStaysSpent
spent_stays_spent old new t ps one spent =
    let accounts = accounts_in old in
    let self = book_follows_no_replies old in
    due_reply_spends_counters old new t.account t.moment one.is_moment ps spent t.sent t.reply (token_at old t.account) refl
    (book_reply_is_due accounts [] old t new one self) (book_follows_attempt accounts [] old t new one self)
