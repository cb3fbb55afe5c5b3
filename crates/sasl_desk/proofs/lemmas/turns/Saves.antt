-- What a turn saves and changes, at a desk or a hall: one save for each line that stands for one, and nothing without such a line.
use Rattle.std.proofs.Common.{◌≡◌, ◌↔◌, inl, inr, ◌+◌, Bool, true, false, ℕ, List, [], ◌∷◌, length, filter, refl, sym, ◌∙◌, ap, subst, arith}
use Rattle.std.specs.List.{AllByRecursion}
use Rattle.std.specs.declared.option.Option.{Option}
use Rattle.std.specs.declared.option.Option.TheVariants.{None, Some}
use Rattle.std.proofs.lemmas.Bool.{false≢true}
use Rattle.std.proofs.lemmas.List.{same_from_push}
use Rattle.otp_core.specs.Attempt.{CodeTexts}
use Rattle.otp_core.specs.declared.token.reply.Reply.{Reply}
use Rattle.otp_core.specs.declared.token.reply.Reply.TheVariants.{Pass, Fail, Locked}
use Rattle.account_book.specs.{BookFields, IsBookText}
use Rattle.account_book.specs.Store.{StoreFacts}
use Rattle.account_book.specs.AccountAttempt.{AccountAttempt, account_attempt_of}
use Rattle.account_book.specs.Tokens.{IsBookAttempt}
use Rattle.account_book.specs.SavedBooks.{HoldsBook}
use Rattle.book_keeper.specs.Keeper.{IsCodeJudged}
use Rattle.book_keeper.specs.declared.keeper.Keeper.{Keeper}
use Rattle.book_keeper.specs.declared.keeper.CodeJudged.{CodeJudged}
use Rattle.book_keeper.specs.declared.keeper.CodeJudged.TheVariants.{Replied, NotSaved}
use Rattle.log_grammar.specs.Lines.{LogLine, said, heard, replies, halt, code_line}
use Rattle.log_grammar.specs.laws.LastLines.{EndsWith}
use Rattle.log_grammar.specs.Places.{Place, waits_code}
use Rattle.log_grammar.specs.Demands.{Accounts}
use Rattle.log_grammar.proofs.lemmas.ListEnds.{all_includes_element}
use Rattle.sasl_desk.specs.Events.{ClientEvent}
use Rattle.sasl_desk.specs.Runs.{hears}
use Rattle.sasl_desk.specs.SavedCalls.{is_saving, IsAttemptOf, CountsSaves, AsksToSaveAttempt, IsQuiet, LeavesFailedStore}
use Rattle.sasl_desk.specs.Sessions.{IsSessionAt}
use Rattle.sasl_desk.specs.inner.SessionTurns.{recorded_shown, turn_lines}
use Rattle.sasl_desk.specs.inner.TurnResults.{after_turn_of, judged_lines, after_judged, IsTurnOf}
use Rattle.sasl_desk.specs.declared.session.Session.{Session}
use Rattle.sasl_desk.specs.declared.session.event.Recorded.{Recorded}
use Rattle.sasl_desk.specs.declared.session.event.Recorded.TheVariants as recorded
use Rattle.sasl_desk.specs.declared.session.event.Turn.{Turn}
use Rattle.sasl_desk.specs.declared.turn.AfterTurn.{AfterTurn}
use Rattle.sasl_desk.specs.declared.turn.AfterTurn.TheVariants.{Going, Closed, Halted}
use Rattle.sasl_desk.proofs.lemmas.Lists.{filter_keeps_none_if_none_passes}
use Rattle.sasl_desk.proofs.lemmas.turns.AnswerLines.{answer_lines_have}
use Rattle.sasl_desk.proofs.lemmas.turns.Keepers.{store_failed_in_this_save, lost_store_has_failed}

-- what is recorded of a client stands for no save
record_is_not_saving : (kept : Recorded) → is_saving (recorded_shown kept) ≡ false
record_is_not_saving (recorded.Line line) = refl
record_is_not_saving recorded.Bad = refl
record_is_not_saving recorded.Gone = refl

-- no line of a turn that a session answers stands for a save
session_turn_lines_are_not_saving : (turn : Turn) (message : List ℕ) → AllByRecursion (λ line. is_saving line ≡ false) (turn_lines turn message)
session_turn_lines_are_not_saving turn message = (
  record_is_not_saving turn.recorded,
  answer_lines_have (λ line. is_saving line ≡ false) (λ text. refl) (λ text. refl) (λ text. refl) refl turn.answer.says turn.answer.session
      message,
)

-- the store is not asked to save for any line of a turn that a session answers
session_turn_saves_nothing : (turn : Turn) (message : List ℕ) → filter is_saving (turn_lines turn message) ≡ []
session_turn_saves_nothing turn message =
    filter_keeps_none_if_none_passes is_saving (turn_lines turn message) (session_turn_lines_are_not_saving turn message)

-- lines of which none stands for a save do not end with `S HALT`
unsaved_lines_have_no_halt : (lines : List LogLine) → AllByRecursion (λ line. is_saving line ≡ false) lines
    → EndsWith lines (said halt ∷ []) → ⊥
unsaved_lines_have_no_halt lines all (before, same) =
    let each = subst (λ (l : List LogLine). AllByRecursion (λ line. is_saving line ≡ false) l) same all in
    let unsaved : is_saving (said halt) ≡ false = all_includes_element (λ line. is_saving line ≡ false) before (said halt) [] each in
    false≢true (sym unsaved)

-- whether a turn that leaves its session so has halted its desk or its hall
abbrev pub halted_after : AfterTurn → Bool
halted_after (Going session) = false
halted_after Closed = false
halted_after (Halted session) = true

-- a session that goes on or has ended halts neither a desk nor a hall
left_session_halts_nothing : (session : Option Session) → halted_after (after_turn_of session) ≡ true → ⊥
left_session_halts_nothing (Some session) is = cc is
left_session_halts_nothing None is = cc is

-- a reply is not `S HALT`
reply_is_no_halt : (moment : ℕ) (reply : Option Reply) → said (replies moment reply) ≡ said halt → ⊥
reply_is_no_halt moment reply same = cc same

-- what came of a code, or of two in a row: the book and the store before it was judged, and after
module _ (IsStored : List ℕ → Type 0) (name : List ℕ) (moment : ℕ) (sent : CodeTexts) (old new : BookFields) (was now : StoreFacts) where
  -- a code makes one save if the answer is PASS, FAIL or HALT, and none for another answer
  code_counts_saves : (judged : CodeJudged) → HoldsBook IsStored old was → IsCodeJudged IsStored old was name moment sent judged new now
      → now.saves ≡ was.saves + length (filter is_saving (judged_lines moment sent judged))
  code_counts_saves (Replied (Some (Pass c))) held (one, kept) = kept.saved.begun.counted
  code_counts_saves (Replied (Some Fail)) held (one, kept) = kept.saved.begun.counted
  code_counts_saves (Replied (Some Locked)) held (one, kept) = let same = ap (λ (f : StoreFacts). f.saves) kept.1 in omega (arith, same)
  code_counts_saves (Replied None) held (one, kept) = let same = ap (λ (f : StoreFacts). f.saves) kept.1 in omega (arith, same)
  code_counts_saves NotSaved held (same, (next, (reply, needs, one), loses)) =
      (store_failed_in_this_save was now loses.text held.working loses.lost).begun.counted

  -- a code that needs a save is an attempt, and the store was asked to save the book with it
  code_asks_for_save : (event : ClientEvent) (at : Place) (judged : CodeJudged) → at ≡ waits_code name → HoldsBook IsStored old was
      → IsCodeJudged IsStored old was name moment sent judged new now → (filter is_saving (judged_lines moment sent judged) ≡ [] → ⊥)
      → (t : AccountAttempt) × (next : BookFields) × IsAttemptOf (hears event moment) at (judged_lines moment sent judged) t
      × IsBookAttempt old t next × IsBookText now.asked next
  code_asks_for_save event at (Replied (Some (Pass c))) here held (one, kept) some = (
    account_attempt_of name moment sent (Some (Pass c)),
    new,
    record {
      event = event;
      answer = said (replies moment (Some (Pass c)));
      is_request = refl;
      place = here;
      lines_are = refl;
      to_save = refl;
    },
    one,
    subst (λ (t : List ℕ). IsBookText t new) (sym kept.saved.begun.asked) kept.is_text,
  )
  code_asks_for_save event at (Replied (Some Fail)) here held (one, kept) some = (
    account_attempt_of name moment sent (Some Fail),
    new,
    record { event = event; answer = said (replies moment (Some Fail)); is_request = refl; place = here; lines_are = refl; to_save = refl },
    one,
    subst (λ (t : List ℕ). IsBookText t new) (sym kept.saved.begun.asked) kept.is_text,
  )
  code_asks_for_save event at (Replied (Some Locked)) here held judged some = absurd (some refl)
  code_asks_for_save event at (Replied None) here held judged some = absurd (some refl)
  code_asks_for_save event at NotSaved here held (same, (next, (reply, needs, one), loses)) some = (
    account_attempt_of name moment sent reply,
    next,
    record { event = event; answer = said halt; is_request = refl; place = here; lines_are = refl; to_save = needs },
    one,
    subst (λ (t : List ℕ). IsBookText t next)
        (sym (store_failed_in_this_save was now loses.text held.working loses.lost).begun.asked) loses.is_text,
  )

  -- if nothing is saved for a code, the book and the store stay as they were
  code_is_quiet : (judged : CodeJudged) → IsCodeJudged IsStored old was name moment sent judged new now
      → filter is_saving (judged_lines moment sent judged) ≡ [] → (new ≡ old) × (now ≡ was)
  code_is_quiet (Replied (Some (Pass c))) judged none = absurd (cc none)
  code_is_quiet (Replied (Some Fail)) judged none = absurd (cc none)
  code_is_quiet (Replied (Some Locked)) (one, kept) none = kept
  code_is_quiet (Replied None) (one, kept) none = kept
  code_is_quiet NotSaved judged none = absurd (cc none)

  -- a code halts a desk or a hall if and only if its last line is `S HALT`
  code_says_halt : (judged : CodeJudged)
      → (halted_after (after_judged name judged) ≡ true) ↔ EndsWith (judged_lines moment sent judged) (said halt ∷ [])
  code_says_halt (Replied reply) = (
    λ is. absurd (cc is),
    λ ends.
        let last = same_from_push (heard (code_line sent) ∷ []) ends.0 (said (replies moment reply)) (said halt) ends.1 in
        absurd (reply_is_no_halt moment reply last.1),
  )
  code_says_halt NotSaved = (λ is. (heard (code_line sent) ∷ [], refl), λ ends. refl)

  -- if a code halts a desk or a hall, the store has failed, and the book stays as it was
  halting_code_failed_saving : (judged : CodeJudged) → IsCodeJudged IsStored old was name moment sent judged new now
      → halted_after (after_judged name judged) ≡ true → (now.failed ≡ true) × (new ≡ old)
  halting_code_failed_saving (Replied reply) judged is = absurd (cc is)
  halting_code_failed_saving NotSaved (same, (next, (reply, needs, one), loses)) is =
      (lost_store_has_failed was now loses.text loses.lost, same)

-- what a turn of a session did to its keeper
module _ {S : Type 0} {facts : S → StoreFacts} {IsStored : List ℕ → Type 0} {old new : Keeper S} {session : Session} {server_nonce : List ℕ}
    {event : ClientEvent} {moment : ℕ} {lines : List LogLine} {left : AfterTurn} where
  -- a turn makes as many saves as its lines stand for
  pub turn_counts_saves : IsTurnOf facts IsStored old session server_nonce event moment lines left new
      → HoldsBook IsStored old.book (facts old.store) → CountsSaves facts lines old new
  turn_counts_saves (inl t) held =
      let none = ap (λ (l : List LogLine). length (filter is_saving l)) t.lines_are ∙ ap (λ (l : List LogLine). length l)
      (session_turn_saves_nothing t.turn t.message) in
      let unasked = ap (λ (k : Keeper S). (facts k.store).saves) t.same in
      omega (arith, none, unasked)
  turn_counts_saves (inr (name, sent, asked, t)) held =
      rw t.lines_are
      (code_counts_saves IsStored name moment sent old.book new.book (facts old.store) (facts new.store) t.judged held t.is_judged)

  -- a turn with a line that stands for a save is an attempt, and the store was asked to save the book with it
  pub turn_asks_for_save : (accounts : Accounts) (at : Place) → IsSessionAt accounts at session
      → IsTurnOf facts IsStored old session server_nonce event moment lines left new
      → HoldsBook IsStored old.book (facts old.store) → AsksToSaveAttempt facts (hears event moment) at lines old new
  turn_asks_for_save accounts at is (inl t) held some =
      absurd (some (ap (filter is_saving) t.lines_are ∙ session_turn_saves_nothing t.turn t.message))
  turn_asks_for_save accounts at is (inr (name, sent, asked, t)) held some =
      rw t.lines_are (code_asks_for_save IsStored name moment sent old.book new.book (facts old.store) (facts new.store) event at t.judged
      (subst (λ (g : Session). IsSessionAt accounts at g) asked.waits is) held t.is_judged (rw t.lines_are at some))

  -- a turn without a line that stands for a save changes neither the book nor the store
  pub turn_is_quiet : IsTurnOf facts IsStored old session server_nonce event moment lines left new → IsQuiet facts lines old new
  turn_is_quiet (inl t) none = (ap (λ (k : Keeper S). k.book) t.same, ap (λ (k : Keeper S). facts k.store) t.same)
  turn_is_quiet (inr (name, sent, asked, t)) none =
      code_is_quiet IsStored name moment sent old.book new.book (facts old.store) (facts new.store) t.judged t.is_judged
      (rw t.lines_are at none)

  -- if a turn halts the desk or the hall, the store has failed, and the book is as before
  pub halting_turn_failed_saving : IsTurnOf facts IsStored old session server_nonce event moment lines left new → halted_after left ≡ true
      → LeavesFailedStore facts old new
  halting_turn_failed_saving (inl t) is = absurd (left_session_halts_nothing t.turn.answer.session (rw t.is_left at is))
  halting_turn_failed_saving (inr (name, sent, asked, t)) is =
      halting_code_failed_saving IsStored name moment sent old.book new.book (facts old.store) (facts new.store) t.judged t.is_judged
      (rw t.is_left at is)

  -- a turn halts the desk or the hall if and only if its last line is `S HALT`
  pub turn_says_halt : IsTurnOf facts IsStored old session server_nonce event moment lines left new
      → (halted_after left ≡ true) ↔ EndsWith lines (said halt ∷ [])
  turn_says_halt (inl t) = (
    λ is. absurd (left_session_halts_nothing t.turn.answer.session (rw t.is_left at is)),
    λ ends. absurd (unsaved_lines_have_no_halt lines
        (subst (λ (l : List LogLine). AllByRecursion (λ line. is_saving line ≡ false) l) (sym t.lines_are)
        (session_turn_lines_are_not_saving t.turn t.message)) ends),
  )
  turn_says_halt (inr (name, sent, asked, t)) =
      rw (t.lines_are, t.is_left)
      (code_says_halt IsStored name moment sent old.book new.book (facts old.store) (facts new.store) t.judged)
