-- How a line stands at a place: it may stand there; or no line of its class may; or one may, but this one is wrong.
use Rattle.std.proofs.Common.{◌≡◌, ◌⊎◌, inl, inr, ℕ, List, [], reverse, refl}
use Rattle.mac_core.proofs.lemmas.Decided.{Decided, decided_both, decided_same_text}
use Rattle.otp_core.specs.Attempt.{CodeTexts, one_text, two_texts}
use Rattle.scram_ends.specs.Verdict.{Due}
use Rattle.account_book.specs.AccountAttempt.{AccountAttempt, account_attempt_of}
use Rattle.log_grammar.specs.Lines.{LogLine, header_one, said, heard, bad, gone, ended, mechs, cont, accepts, refuses, replies, halt, auth, auth_with}
use Rattle.log_grammar.specs.Lines.{resp, abort, code, sync}
use Rattle.log_grammar.specs.Places.{Place, before_all, between, offered, asks_bare, waits_first, got_first, waits_final, got_final, waits_code}
use Rattle.log_grammar.specs.Places.{got_code, leaving, ending, halted}
use Rattle.log_grammar.specs.Words.{offered_names}
use Rattle.log_grammar.specs.Demands.{Accounts, IsVerdictDue, attempts_of, HasDueReply, demands, HaveDueReplies}
use Rattle.log_grammar.specs.state_machine.Steps.{IsTransition, told_at}
use Rattle.log_grammar.specs.Why.{Why, other_mechs, other_challenge, other_outcome, other_reply, refused_with, outcome_of, LineClass, of_abort}
use Rattle.log_grammar.specs.Why.{of_code, of_sync, of_bad, of_gone, class_of, IsReasonForAnswer, IsReasonForReply, IsReasonForLine}
use Rattle.log_grammar.specs.state_machine.DueClasses.{IsQuitting, IsDueAt}
use Rattle.log_grammar.proofs.lemmas.demands.Challenges.{decided_offered, decided_first_message}
use Rattle.log_grammar.proofs.lemmas.demands.StillChallenged.{ChallengeMeetsDemand}
use Rattle.log_grammar.proofs.lemmas.completions.Verdicts.{some_verdict}
use Rattle.log_grammar.proofs.lemmas.demands.DemandsDecided.{decided_challenged, decided_denied, decided_granted, some_reply}
use Rattle.log_grammar.proofs.lemmas.demands.DemandsDecided.{decided_reply_due}

-- a line may stand at a place; if it is a reply to a code, it is the one due
pub record Follows (accounts : Accounts) (place : Place) (told : List AccountAttempt) (line : LogLine) : Type 0 where
  pub next : Place
  pub goes : IsTransition (demands accounts) place line next
  pub due : HaveDueReplies (demands accounts) (reverse told) (told_at place line)

-- a line fails: its class is due at the place, but it may not stand there, and it is wrong for this reason
pub record Fails (accounts : Accounts) (place : Place) (told : List AccountAttempt) (line : LogLine) : Type 0 where
  pub of_class : IsDueAt place (class_of line)
  pub stuck : Follows accounts place told line → ⊥
  pub why : Why
  pub wrong : IsReasonForLine accounts place told line why

-- a line may stand, is of a class that is not due, or fails
abbrev pub Standing : Accounts → Place → List AccountAttempt → LogLine → Type 0
Standing accounts place told line = Follows accounts place told line
    ⊎ ((IsDueAt place (class_of line) → ⊥) ⊎ Fails accounts place told line)

-- if a line may stand if and only if it meets a demand, and it is decidable whether it does, it stands at its place in one of the three
-- ways
demand_gives_standing : (accounts : Accounts) (place : Place) (told : List AccountAttempt) (line : LogLine) (P : Type 0)
    → IsDueAt place (class_of line) → (why : Why) × IsReasonForLine accounts place told line why → (P → Follows accounts place told line)
    → (Follows accounts place told line → P) → Decided P → Standing accounts place told line
demand_gives_standing accounts place told line P due why there back (inl meets) = inl (there meets)
demand_gives_standing accounts place told line P due why there back (inr none) =
    inr (inr (record { of_class = due; stuck = λ f. none (back f); why = why.0; wrong = why.1 }))

-- a line that may not stand at a place where its class is due fails
stuck_line_fails : (accounts : Accounts) (place : Place) (told : List AccountAttempt) (line : LogLine) → IsDueAt place (class_of line)
    → (why : Why) × IsReasonForLine accounts place told line why → (Follows accounts place told line → ⊥)
    → Standing accounts place told line
stuck_line_fails accounts place told line due why stuck =
    demand_gives_standing accounts place told line ⊥ due why (λ none. absurd none) stuck (inr (λ none. none))

-- a class is not due at a client's turn if it is not the class that is due only at this place, nor one by which a client ends its session
other_class_is_not_due_at_turn : (class own : LineClass) → (class ≡ own → ⊥) → (class ≡ of_abort → ⊥) → (class ≡ of_bad → ⊥)
    → (class ≡ of_gone → ⊥) → (class ≡ own) ⊎ IsQuitting class → ⊥
other_class_is_not_due_at_turn class own no_own no_abort no_bad no_gone (inl is) = no_own is
other_class_is_not_due_at_turn class own no_own no_abort no_bad no_gone (inr (inl is)) = no_abort is
other_class_is_not_due_at_turn class own no_own no_abort no_bad no_gone (inr (inr (inl is))) = no_bad is
other_class_is_not_due_at_turn class own no_own no_abort no_bad no_gone (inr (inr (inr is))) = no_gone is

-- a class is not due while a code is due if it is neither that of one code or of two, nor one by which a client ends its session
other_class_is_not_due_for_codes : (class : LineClass) → (class ≡ of_code → ⊥) → (class ≡ of_sync → ⊥) → (class ≡ of_abort → ⊥)
    → (class ≡ of_bad → ⊥) → (class ≡ of_gone → ⊥) → (class ≡ of_code) ⊎ ((class ≡ of_sync) ⊎ IsQuitting class) → ⊥
other_class_is_not_due_for_codes class no_code no_sync no_abort no_bad no_gone (inl is) = no_code is
other_class_is_not_due_for_codes class no_code no_sync no_abort no_bad no_gone (inr other) =
    other_class_is_not_due_at_turn class of_sync no_sync no_abort no_bad no_gone other

-- if something has a property or nothing has it, it is decidable whether something has it
decided_some : {A : Type 0} {P : A → Type 0} → ((a : A) × P a) ⊎ ((a : A) → P a → ⊥) → Decided ((a : A) × P a)
decided_some (inl is) = inl is
decided_some (inr none) = inr (λ is. none is.0 is.1)

-- if something has a property or nothing has it, it is decidable whether nothing has it
decided_none : {A : Type 0} {P : A → Type 0} → ((a : A) × P a) ⊎ ((a : A) → P a → ⊥) → Decided ((a : A) → P a → ⊥)
decided_none (inl is) = inr (λ none. none is.0 is.1)
decided_none (inr none) = inl none

-- after `C AUTH` without a message there is a reason for which an answer is wrong
some_why_after_auth : (accounts : Accounts) (m : List ℕ) → (why : Why) × IsReasonForAnswer accounts (asks_bare m) why
some_why_after_auth accounts m = elim (decided_offered m) [
  | inl is ↦ (other_challenge, inl (is, refl))
  | inr none ↦ (other_outcome (refused_with []), inr (none, refl))
]

-- after a client-first message there is a reason for which an answer is wrong
some_why_after_first : (accounts : Accounts) (m first : List ℕ)
    → (why : Why) × IsReasonForAnswer accounts (got_first m first) why
some_why_after_first accounts m first = elim (decided_first_message m first) [
  | inl is ↦ (other_challenge, inl (is, refl))
  | inr none ↦ (other_outcome (refused_with []), inr (none, refl))
]

-- after a code there is a reason for which a reply is wrong
some_why_after_code : (accounts : Accounts) (account : List ℕ) (sent : CodeTexts) (told : List AccountAttempt) (moment : ℕ)
    → (why : Why) × IsReasonForReply accounts (got_code account sent) told moment why
some_why_after_code accounts account sent told moment =
    let due = some_reply (accounts.token account) (attempts_of account (reverse told)) moment sent in
    (other_reply moment due.0, (due.0, due.1, refl))

module _ (accounts : Accounts) (told : List AccountAttempt) where
  -- before all lines, a line stands in one of the three ways
  before_all_gives_standing : (line : LogLine) → Standing accounts before_all told line
  before_all_gives_standing header_one = inl (record { next = between; goes = refl; due = tt })
  -- (for the prover: docs/PROVING.md, "A last clause over a variable")
  before_all_gives_standing (said halt) = inr (inl (λ is. cc is))
  before_all_gives_standing (heard abort) = inr (inl (λ is. cc is))
  before_all_gives_standing line = inr (inl (λ is. cc is))

  -- between sessions, a line stands in one of the three ways
  between_gives_standing : (line : LogLine) → Standing accounts between told line
  between_gives_standing (said (mechs names)) =
      demand_gives_standing accounts between told (said (mechs names)) (names ≡ offered_names) refl (other_mechs, refl)
      (λ is. record { next = offered; goes = (is, refl); due = tt }) (λ f. f.goes.0)
      (decided_same_text names offered_names)
  -- (for the prover: docs/PROVING.md, "A last clause over a variable")
  between_gives_standing (heard abort) = inr (inl (λ is. cc is))
  between_gives_standing line = inr (inl (λ is. cc is))

  -- after `S MECHS`, a line stands in one of the three ways
  offered_gives_standing : (line : LogLine) → Standing accounts offered told line
  offered_gives_standing (heard (auth m)) = inl (record { next = asks_bare m; goes = refl; due = tt })
  offered_gives_standing (heard (auth_with m first)) = inl (record { next = got_first m first; goes = refl; due = tt })
  offered_gives_standing (heard abort) = inl (record { next = leaving; goes = refl; due = tt })
  offered_gives_standing bad = inl (record { next = leaving; goes = refl; due = tt })
  offered_gives_standing gone = inl (record { next = ending; goes = refl; due = tt })
  -- (for the prover: docs/PROVING.md, "A last clause over a variable")
  offered_gives_standing (said halt) = inr (inl (other_class_is_not_due_at_turn _ _ (λ e. cc e) (λ e. cc e) (λ e. cc e) (λ e. cc e)))
  offered_gives_standing line = inr (inl (other_class_is_not_due_at_turn _ _ (λ e. cc e) (λ e. cc e) (λ e. cc e) (λ e. cc e)))

  -- after `C AUTH` without a message, a line stands in one of the three ways
  asks_bare_gives_standing : (m : List ℕ) (line : LogLine) → Standing accounts (asks_bare m) told line
  asks_bare_gives_standing m (said (refuses text)) =
      demand_gives_standing accounts (asks_bare m) told (said (refuses text)) _ refl (some_why_after_auth accounts m)
      (λ is. record { next = ending; goes = (is, refl); due = tt }) (λ f. f.goes.0)
      (decided_both _ _ (decided_none (decided_offered m)) (decided_same_text text []))
  asks_bare_gives_standing m (said (cont text)) =
      demand_gives_standing accounts (asks_bare m) told (said (cont text)) _ refl (some_why_after_auth accounts m)
      (λ is. record { next = waits_first m; goes = (is, refl); due = tt }) (λ f. f.goes.0)
      (decided_both _ _ (decided_some (decided_offered m)) (decided_same_text text []))
  asks_bare_gives_standing m (said (accepts text)) =
      stuck_line_fails accounts (asks_bare m) told (said (accepts text)) refl (some_why_after_auth accounts m) (λ f. f.goes)
  asks_bare_gives_standing m (heard abort) = inr (inl (λ is. cc is))
  asks_bare_gives_standing m line = inr (inl (λ is. cc is))

  -- when a client-first message is due, a line stands in one of the three ways
  waits_first_gives_standing : (m : List ℕ) (line : LogLine) → Standing accounts (waits_first m) told line
  waits_first_gives_standing m (heard (resp first)) = inl (record { next = got_first m first; goes = refl; due = tt })
  waits_first_gives_standing m (heard abort) = inl (record { next = leaving; goes = refl; due = tt })
  waits_first_gives_standing m bad = inl (record { next = leaving; goes = refl; due = tt })
  waits_first_gives_standing m gone = inl (record { next = ending; goes = refl; due = tt })
  waits_first_gives_standing m (said halt) = inr (inl (other_class_is_not_due_at_turn _ _ (λ e. cc e) (λ e. cc e) (λ e. cc e) (λ e. cc e)))
  waits_first_gives_standing m line = inr (inl (other_class_is_not_due_at_turn _ _ (λ e. cc e) (λ e. cc e) (λ e. cc e) (λ e. cc e)))

  -- after a challenge, a line stands in one of the three ways
  waits_final_gives_standing : (m account first challenge : List ℕ) (line : LogLine)
      → Standing accounts (waits_final m account first challenge) told line
  waits_final_gives_standing m account first challenge (heard (resp last)) =
      inl (record { next = got_final m account first challenge last; goes = refl; due = tt })
  waits_final_gives_standing m account first challenge (heard abort) = inl (record { next = leaving; goes = refl; due = tt })
  waits_final_gives_standing m account first challenge bad = inl (record { next = leaving; goes = refl; due = tt })
  waits_final_gives_standing m account first challenge gone = inl (record { next = ending; goes = refl; due = tt })
  waits_final_gives_standing m account first challenge (said halt) =
      inr (inl (other_class_is_not_due_at_turn _ _ (λ e. cc e) (λ e. cc e) (λ e. cc e) (λ e. cc e)))
  waits_final_gives_standing m account first challenge line =
      inr (inl (other_class_is_not_due_at_turn _ _ (λ e. cc e) (λ e. cc e) (λ e. cc e) (λ e. cc e)))

  -- when a code is due, a line stands in one of the three ways
  waits_code_gives_standing : (account : List ℕ) (line : LogLine) → Standing accounts (waits_code account) told line
  waits_code_gives_standing account (heard (code text)) = inl (record { next = got_code account (one_text text); goes = refl; due = tt })
  waits_code_gives_standing account (heard (sync first second)) =
      inl (record { next = got_code account (two_texts first second); goes = refl; due = tt })
  waits_code_gives_standing account (heard abort) = inl (record { next = leaving; goes = refl; due = tt })
  waits_code_gives_standing account bad = inl (record { next = leaving; goes = refl; due = tt })
  waits_code_gives_standing account gone = inl (record { next = ending; goes = refl; due = tt })
  waits_code_gives_standing account (said halt) =
      inr (inl (other_class_is_not_due_for_codes _ (λ e. cc e) (λ e. cc e) (λ e. cc e) (λ e. cc e) (λ e. cc e)))
  waits_code_gives_standing account line =
      inr (inl (other_class_is_not_due_for_codes _ (λ e. cc e) (λ e. cc e) (λ e. cc e) (λ e. cc e) (λ e. cc e)))

  -- after a client that leaves, a line stands in one of the three ways
  leaving_gives_standing : (line : LogLine) → Standing accounts leaving told line
  leaving_gives_standing (said (refuses text)) =
      demand_gives_standing accounts leaving told (said (refuses text)) (text ≡ []) refl (other_outcome (refused_with []), refl)
      (λ is. record { next = ending; goes = (is, refl); due = tt }) (λ f. f.goes.0) (decided_same_text text [])
  leaving_gives_standing (said (cont text)) =
      stuck_line_fails accounts leaving told (said (cont text)) refl (other_outcome (refused_with []), refl) (λ f. f.goes)
  leaving_gives_standing (said (accepts text)) =
      stuck_line_fails accounts leaving told (said (accepts text)) refl (other_outcome (refused_with []), refl) (λ f. f.goes)
  leaving_gives_standing (heard abort) = inr (inl (λ is. cc is))
  leaving_gives_standing line = inr (inl (λ is. cc is))

  -- when `E` is due, a line stands in one of the three ways
  ending_gives_standing : (line : LogLine) → Standing accounts ending told line
  ending_gives_standing ended = inl (record { next = between; goes = refl; due = tt })
  ending_gives_standing (said halt) = inr (inl (λ is. cc is))
  ending_gives_standing (heard abort) = inr (inl (λ is. cc is))
  ending_gives_standing line = inr (inl (λ is. cc is))

module _ (accounts : Accounts) (told : List AccountAttempt) where
  -- after a client-first message, a line stands in one of the three ways
  got_first_gives_standing : (m first : List ℕ) (line : LogLine) → Standing accounts (got_first m first) told line
  got_first_gives_standing m first (said (refuses text)) =
      demand_gives_standing accounts (got_first m first) told (said (refuses text)) _ refl (some_why_after_first accounts m first)
      (λ is. record { next = ending; goes = (is, refl); due = tt }) (λ f. f.goes.0)
      (decided_both _ _ (decided_none (decided_first_message m first))
      (decided_same_text text []))
  got_first_gives_standing m first (said (cont text)) =
      demand_gives_standing accounts (got_first m first) told (said (cont text)) _ refl (some_why_after_first accounts m first)
      (λ is. record { next = waits_final m is.0 first text; goes = (is.0, is.1, refl); due = tt }) (λ f. (f.goes.0, f.goes.1))
      (decided_challenged accounts m first text)
  got_first_gives_standing m first (said (accepts text)) =
      stuck_line_fails accounts (got_first m first) told (said (accepts text)) refl (some_why_after_first accounts m first)
      (λ f. f.goes)
  got_first_gives_standing m first (heard abort) = inr (inl (λ is. cc is))
  got_first_gives_standing m first line = inr (inl (λ is. cc is))

  -- after a client-final message for which a verdict is due, a line stands in one of the three ways
  got_final_gives_standing : (m account first challenge last : List ℕ)
      → (due : Due) × IsVerdictDue accounts m account first challenge last due → (line : LogLine)
      → Standing accounts (got_final m account first challenge last) told line
  got_final_gives_standing m account first challenge last (due, is) (said (refuses text)) =
      demand_gives_standing accounts (got_final m account first challenge last) told (said (refuses text)) _ refl
      (other_outcome (outcome_of due), (due, is, refl))
      (λ denied. record { next = ending; goes = (denied, refl); due = tt }) (λ f. f.goes.0)
      (decided_denied accounts m account first challenge last text due is)
  got_final_gives_standing m account first challenge last (due, is) (said (accepts text)) =
      demand_gives_standing accounts (got_final m account first challenge last) told (said (accepts text)) _ refl
      (other_outcome (outcome_of due), (due, is, refl))
      (λ granted. record { next = waits_code account; goes = (granted, refl); due = tt }) (λ f. f.goes.0)
      (decided_granted accounts m account first challenge last text due is)
  got_final_gives_standing m account first challenge last (due, is) (said (cont text)) =
      stuck_line_fails accounts (got_final m account first challenge last) told (said (cont text)) refl
      (other_outcome (outcome_of due), (due, is, refl))
      (λ f. f.goes)
  got_final_gives_standing m account first challenge last (due, is) (heard abort) = inr (inl (λ e. cc e))
  got_final_gives_standing m account first challenge last (due, is) line = inr (inl (λ e. cc e))

  -- after a code, a line stands in one of the three ways
  got_code_gives_standing : (account : List ℕ) (sent : CodeTexts) (line : LogLine) → Standing accounts (got_code account sent) told line
  got_code_gives_standing account sent (said (replies moment reply)) =
      demand_gives_standing accounts (got_code account sent) told (said (replies moment reply))
      (HasDueReply accounts (reverse told) (account_attempt_of account moment sent reply))
      refl (some_why_after_code accounts account sent told moment)
      (λ is. record { next = waits_code account; goes = refl; due = (is, tt) }) (λ f. f.due.0)
      (decided_reply_due (accounts.token account) (attempts_of account (reverse told)) moment sent reply)
  got_code_gives_standing account sent (said halt) = inl (record { next = halted; goes = refl; due = tt })
  got_code_gives_standing account sent (heard abort) = inr (inl (λ is. cc is))
  got_code_gives_standing account sent line = inr (inl (λ is. cc is))

-- at each place to which lines of a log lead, a line stands in one of the three ways
pub line_has_standing : (accounts : Accounts) (place : Place) (told : List AccountAttempt) (line : LogLine)
    → ChallengeMeetsDemand (demands accounts) place → Standing accounts place told line
line_has_standing accounts before_all told line opened = before_all_gives_standing accounts told line
line_has_standing accounts between told line opened = between_gives_standing accounts told line
line_has_standing accounts offered told line opened = offered_gives_standing accounts told line
line_has_standing accounts (asks_bare m) told line opened = asks_bare_gives_standing accounts told m line
line_has_standing accounts (waits_first m) told line opened = waits_first_gives_standing accounts told m line
line_has_standing accounts (got_first m first) told line opened = got_first_gives_standing accounts told m first line
line_has_standing accounts (waits_final m account first challenge) told line opened =
    waits_final_gives_standing accounts told m account first challenge
    line
line_has_standing accounts (got_final m account first challenge last) told line opened =
    got_final_gives_standing accounts told m account first challenge last
    (some_verdict accounts m account first challenge last opened) line
line_has_standing accounts (waits_code account) told line opened = waits_code_gives_standing accounts told account line
line_has_standing accounts (got_code account sent) told line opened = got_code_gives_standing accounts told account sent line
line_has_standing accounts leaving told line opened = leaving_gives_standing accounts told line
line_has_standing accounts ending told line opened = ending_gives_standing accounts told line
line_has_standing accounts halted told line opened = inr (inl (λ none. none))
