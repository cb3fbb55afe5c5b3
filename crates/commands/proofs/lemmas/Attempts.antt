-- A run of `verify` as changes of its book, line by line.
use Rattle.std.proofs.Common.{◌≡◌, ◌⊎◌, inl, inr, Bool, ℕ, List, [], ◌∷◌, ◌++◌, Option, refl, sym, ◌∙◌, subst, append_assoc}
use Rattle.std.specs.Prelude.{map, reverse, IfSome, None, Some, false}
use Rattle.std.specs.List.{AllZip}
use Rattle.std.specs.Io.KnownBytes.{Appends}
use Rattle.std.proofs.KnownBytes.{Appends-nil, Appends-trans}
use Rattle.std.proofs.lemmas.Bool.{false≢true}
use Rattle.std.proofs.lemmas.Grind.{reverse_onto}
use Rattle.std.proofs.lemmas.List.{reverse-append}
use Rattle.clap.specs.declared.parser.matches.ArgMatches.{ArgMatches}
use Rattle.account_book.specs.{BookFields, IsBookText}
use Rattle.account_book.specs.SavedBooks.{SavesBook}
use Rattle.account_book.specs.Store.{StoreFacts, IsFailedSave, MayHold, MayHoldWithinSave}
use Rattle.account_book.specs.AccountAttempt.{AccountAttempt, account_attempt_of}
use Rattle.account_book.specs.Tokens.{IsBookAttempt, IsBookAfterAttempts}
use Rattle.account_book.specs.Spent.{spent_by_all, AreSpent, spent_by}
use Rattle.command_line.specs.declared.fault.Fault.{Fault}
use Rattle.command_line.specs.declared.fault.Fault.TheVariants.{CannotWrite, CannotWriteOutput}
use Rattle.log_grammar.proofs.lemmas.ListEnds.{related_lists-append}
use Rattle.sasl_desk.specs.{CodeTexts, Reply, Locked}
use Rattle.sasl_desk.specs.Changes.{Change, judged, AreChanges}
use Rattle.sasl_desk.proofs.lemmas.runs.BooksAfterReplies.{reply_adds_to_book}
use Rattle.sasl_desk.proofs.lemmas.runs.Changes.{rest_is_spent}
use Rattle.command_io.specs.{IsChangeUnsaved, IsSavingReplyDue, NotSaved}
use Rattle.command_io.specs.HeldBook.{HeldFacts, IsReplySaved, IsStoreAfterFault, HoldsItsBook}
use Rattle.command_io.specs.Input.{AreLinesOf, EachInTurn, LinesInTurn}
use Rattle.commands.specs.Attempts.{MakesAttempt, printed_replies, PrintsUntil, MakesAttempts, SavesNextLine}
use Rattle.commands.specs.SentCodes.{SaysCodes}
use Rattle.commands.specs.Verify.{VerifyRun, AnswersLine, AnswersFirstLines, BeginsToVerify, FailsAtLine, FailsToPrint}

-- a store that saved a book holds its text
pub saved_book_is_held : (IsStored : List ℕ → Type 0) (old new : HeldFacts) → SavesBook IsStored old.store new.book new.store → HoldsItsBook new
saved_book_is_held IsStored old new saves = record {
  working = saves.saved.working;
  saved = subst (λ (t : List ℕ). IsBookText t new.book) (sym saves.saved.saved) saves.is_text;
  stored = tt;
}

-- after a reply the store holds a text of the book, if it did so before
saved_reply_keeps_book_held : (IsStored : List ℕ → Type 0) (old : HeldFacts) (name : List ℕ) (moment : ℕ) (sent : CodeTexts) (reply : Reply)
    (new : HeldFacts) → IsReplySaved IsStored old name moment sent reply new → HoldsItsBook old → HoldsItsBook new
saved_reply_keeps_book_held IsStored old name moment sent Locked new is holds =
    let (book, store) = is.kept in
    record {
      working = subst (λ (s : StoreFacts). s.failed ≡ false) (sym store) holds.working;
      saved = subst (λ (b : BookFields). IsBookText new.store.saved b) (sym book)
          (subst (λ (s : StoreFacts). IsBookText s.saved old.book) (sym store) holds.saved);
      stored = tt;
    }
saved_reply_keeps_book_held IsStored old name moment sent reply new is holds = saved_book_is_held IsStored old new is.kept

-- each text that the store may hold is one of the book, if it holds one and has not failed
pub held_text_is_of_book : (held : HeldFacts) (text : List ℕ) → HoldsItsBook held → MayHold held.store text → IsBookText text held.book
held_text_is_of_book held text holds (inl same) = subst (λ (t : List ℕ). IsBookText t held.book) (sym same) holds.saved
held_text_is_of_book held text holds (inr (failed, same)) = absurd (false≢true (sym holds.working ∙ failed))

-- after a change that fails, the store is as it was, or it failed to save a book with the change
pub store_was_unasked_or_failed : (old : HeldFacts) (Changes : BookFields → BookFields → Type 0) (fault : Fault) (new : StoreFacts)
    → IsStoreAfterFault old Changes fault new → (new ≡ old.store) ⊎ IsChangeUnsaved Changes old.book old.store NotSaved new
store_was_unasked_or_failed old Changes (CannotWrite file) new fails = inr fails
store_was_unasked_or_failed old Changes fault new same = inl same

-- a run that begins holds its book
pub run_holds_its_book : {File : Type 0} (bytes_of : File → Option (List ℕ)) (words : ArgMatches) (printed : Option (List ℕ)) (moment : ℕ)
    (run : VerifyRun) → BeginsToVerify bytes_of words printed moment run → HoldsItsBook run.held
run_holds_its_book bytes_of words printed moment run begins =
    record { working = begins.working; saved = begins.is_book.is_text; stored = tt }

-- what attempts and one more used contains what the attempts used
pub earlier_counters_are_spent : (attempts : List AccountAttempt) (attempt : AccountAttempt) (spent : List (List ℕ × ℕ)) (book : BookFields)
    → AreSpent (spent_by_all (reverse (attempts ++ attempt ∷ [])) ++ spent) book → AreSpent (spent_by_all (reverse attempts) ++ spent) book
earlier_counters_are_spent attempts attempt spent book all =
    rest_is_spent book (spent_by attempt) (spent_by_all (reverse attempts) ++ spent)
    (subst (λ (l : List (List ℕ × ℕ)). AreSpent l book) (append_assoc (spent_by attempt) (spent_by_all (reverse attempts)) spent)
    (subst (λ (latest_first : List AccountAttempt). AreSpent (spent_by_all latest_first ++ spent) book)
    (reverse-append attempts (attempt ∷ [])) all))

-- changes
module _ {S : Type 0} (facts : S → StoreFacts) (IsStored : List ℕ → Type 0) where
  -- the law: changes that follow others are, together with these, changes from the first book to the last
  pub changes_follow_changes : (first : BookFields) (before : List Change) (middle : BookFields) (after : List Change)
      (last : BookFields) → AreChanges facts IsStored first before middle → AreChanges facts IsStored middle after last
      → AreChanges facts IsStored first (after ++ before) last
  changes_follow_changes first before middle [] last earlier same =
      subst (λ (b : BookFields). AreChanges facts IsStored first before b) (sym same) earlier
  changes_follow_changes first before middle (change ∷ after) last earlier (next, later, one) =
      (next, changes_follow_changes first before middle after next earlier later, one)

  -- the law, of replies, of which the latest is given first: their attempts are changes
  pub replies_are_changes : (start : BookFields) (latest_first : List AccountAttempt) (book : BookFields)
      → IsBookAfterAttempts start latest_first book → AreChanges facts IsStored start (map judged latest_first) book
  replies_are_changes start [] book same = same
  replies_are_changes start (attempt ∷ before) book (old, earlier, one) = (old, replies_are_changes start before old earlier, one)

-- replies that follow others are, together with these, replies from the first book to the last; the latest of each are given first
replies_follow_replies : (first : BookFields) (before : List AccountAttempt) (middle : BookFields) (after : List AccountAttempt)
    (last : BookFields) → IsBookAfterAttempts first before middle → IsBookAfterAttempts middle after last
    → IsBookAfterAttempts first (after ++ before) last
replies_follow_replies first before middle [] last earlier same =
    subst (λ (b : BookFields). IsBookAfterAttempts first before b) (sym same) earlier
replies_follow_replies first before middle (attempt ∷ after) last earlier (next, later, one) =
    (next, replies_follow_replies first before middle after next earlier later, one)

-- lines that are answered, at this moment and by the account of this name
module _ (IsStored : List ℕ → Type 0) (name : List ℕ) (moment : ℕ) where
  -- lines that are answered leave a text of the book in the store
  answered_lines_keep_book_held : (lines : List (List ℕ)) (old : VerifyRun) (all_passed : Bool) (new : VerifyRun)
      → EachInTurn (AnswersLine IsStored name moment) lines old all_passed new → HoldsItsBook old.held → HoldsItsBook new.held
  answered_lines_keep_book_held [] old all_passed new (same, is) holds =
      subst (λ (r : VerifyRun). HoldsItsBook r.held) (sym same) holds
  answered_lines_keep_book_held (line ∷ lines) old all_passed new (passed, next, others, (reply, answered, passes), rest, is) holds =
      answered_lines_keep_book_held lines next others new rest
      (saved_reply_keeps_book_held IsStored old.held name moment answered.sent reply next.held answered.saved holds)

  -- the law, of the store: after these lines it holds no text but those of the book
  pub answered_lines_are_changes_saved : (input : Option (List ℕ)) (last : List (List ℕ)) (old : VerifyRun) (all_passed : Bool)
      (new : VerifyRun) (text : List ℕ) → LinesInTurn (AnswersLine IsStored name moment) input last old all_passed new
      → HoldsItsBook old.held → MayHold new.held.store text → IsBookText text new.held.book
  answered_lines_are_changes_saved input last old all_passed new text answers holds may =
      held_text_is_of_book new.held text (answered_lines_keep_book_held answers.lines old all_passed new answers.in_turn holds) may

  -- lines made these attempts in order: they made the old book the new one, and the replies were printed
  record HaveMade (lines : List (List ℕ)) (attempts : List AccountAttempt) (old new : VerifyRun) : Type 0 where
    made : AllZip (MakesAttempt name moment) lines attempts
    printed : Appends old.printed new.printed (printed_replies attempts)
    leads : IsBookAfterAttempts old.held.book (reverse attempts) new.held.book

  -- lines that are answered have made attempts
  answered_lines_have_made : (lines : List (List ℕ)) (old : VerifyRun) (all_passed : Bool) (new : VerifyRun)
      → EachInTurn (AnswersLine IsStored name moment) lines old all_passed new
      → (attempts : List AccountAttempt) × HaveMade lines attempts old new
  answered_lines_have_made [] old all_passed new (same, is) = (
    [],
    subst (λ (r : VerifyRun). HaveMade [] [] old r) (sym same)
        (record { made = tt; printed = Appends-nil old.printed; leads = refl }),
  )
  answered_lines_have_made (line ∷ lines) old all_passed new (passed, next, others, (reply, answered, passes), rest, is) =
      let attempt = account_attempt_of name moment answered.sent (Some reply) in
      let more = answered_lines_have_made lines next others new rest in (
        attempt ∷ more.0,
        record {
          made = ((answered.sent, reply, answered.says, refl), more.1.made);
          printed = Appends-trans old.printed next.printed new.printed _ (printed_replies more.0) answered.printed more.1.printed;
          leads = subst (λ (l : List AccountAttempt). IsBookAfterAttempts old.held.book l new.held.book)
              (sym (reverse_onto more.0 attempt []))
              (replies_follow_replies old.held.book (attempt ∷ []) next.held.book (reverse more.0) new.held.book
              (old.held.book, refl, answered.saved.due) more.1.leads);
        },
      )

  -- the law, of a run that answered all lines except these last ones
  pub answered_lines_are_changes_all : (input : Option (List ℕ)) (last : List (List ℕ)) (old : VerifyRun) (all_passed : Bool)
      (new : VerifyRun) → LinesInTurn (AnswersLine IsStored name moment) input last old all_passed new
      → (attempts : List AccountAttempt)
      × MakesAttempts name moment input last attempts old.held.book new.held.book
      × Appends old.printed new.printed (printed_replies attempts)
  answered_lines_are_changes_all input last old all_passed new answers =
      let (attempts, have) = answered_lines_have_made answers.lines old all_passed new answers.in_turn in
      (attempts, record { lines = answers.lines; are = answers.are; made = have.made; leads = have.leads }, have.printed)

  -- the next line makes one attempt more
  next_line_makes_attempt : (input : Option (List ℕ)) (line : List ℕ) (last : List (List ℕ)) (attempts : List AccountAttempt)
      (attempt : AccountAttempt) (old middle next : BookFields)
      → MakesAttempts name moment input (line ∷ last) attempts old middle
      → MakesAttempt name moment line attempt → IsBookAttempt middle attempt next
      → MakesAttempts name moment input last (attempts ++ attempt ∷ []) old next
  next_line_makes_attempt input line last attempts attempt old middle next makes made one = record {
    lines = makes.lines ++ line ∷ [];
    are = subst (λ (all : List (List ℕ)). IfSome input (λ bytes. AreLinesOf bytes all))
        (sym (append_assoc makes.lines (line ∷ []) last)) makes.are;
    made = related_lists-append (MakesAttempt name moment) makes.lines (line ∷ []) attempts (attempt ∷ []) makes.made (made, tt);
    leads = reply_adds_to_book old middle next attempts attempt makes.leads one;
  }

  -- the law, of a run within a save
  pub answered_lines_are_changes_within : (input : Option (List ℕ)) (old middle : VerifyRun) (asked text : List ℕ)
      (saves : SavesNextLine IsStored name moment input old middle asked) → HoldsItsBook old.held
      → MayHoldWithinSave middle.held.store asked text
      → (attempts : List AccountAttempt) × Appends old.printed middle.printed (printed_replies attempts)
      × ((IsBookText text middle.held.book
      × MakesAttempts name moment input (saves.line ∷ saves.last) attempts old.held.book middle.held.book)
      ⊎ (IsBookText text saves.next
      × MakesAttempts name moment input saves.last (attempts ++ saves.attempt ∷ []) old.held.book saves.next))
  answered_lines_are_changes_within input old middle asked text saves holds may =
      let (attempts, makes, printed) =
      answered_lines_are_changes_all input (saves.line ∷ saves.last) old saves.all_passed middle saves.answers in (
        attempts,
        printed,
        elim may [
          | inl before ↦
              let is_text =
              answered_lines_are_changes_saved input (saves.line ∷ saves.last) old saves.all_passed middle text saves.answers holds
              before in
              inl (is_text, makes)
          | inr same ↦
              let makes_too =
              next_line_makes_attempt input saves.line saves.last attempts saves.attempt old.held.book middle.held.book saves.next makes
              saves.made saves.judged in
              inr (subst (λ (t : List ℕ). IsBookText t saves.next) (sym same) saves.is_text, makes_too)
        ],
      )

  -- a run that a fault ended
  module _ (path : List ℕ) (input : Option (List ℕ)) (old : VerifyRun) (fault : Fault) (new : VerifyRun) (text : List ℕ) where
    -- the text is that of a book to which attempts led, and the replies to these are printed as far as the run came
    abbrev LeavesText : Type 0
    LeavesText =
        (left : BookFields) × (last : List (List ℕ)) × (attempts : List AccountAttempt) × IsBookText text left
        × MakesAttempts name moment input last attempts old.held.book left
        × PrintsUntil fault attempts old.printed new.printed

    -- the run left the book after the lines that it answered
    leaves_book_before : (last : List (List ℕ)) (all_passed : Bool) (middle : VerifyRun)
        → LinesInTurn (AnswersLine IsStored name moment) input last old all_passed middle → new.printed ≡ middle.printed
        → IsBookText text middle.held.book → LeavesText
    leaves_book_before last all_passed middle walk silent is_text =
        let (attempts, makes, printed) = answered_lines_are_changes_all input last old all_passed middle walk in (
          middle.held.book,
          last,
          attempts,
          is_text,
          makes,
          inl (subst (λ (o : Option (List ℕ)). Appends old.printed o (printed_replies attempts)) (sym silent) printed),
        )

    -- a run that a fault ended at a line, after the lines before it
    module _ (line : List ℕ) (last : List (List ℕ)) (all_passed : Bool) (middle : VerifyRun)
        (walk : LinesInTurn (AnswersLine IsStored name moment) input (line ∷ last) old all_passed middle) where
      -- the run left the book with the attempt of this line
      leaves_book_after : (sent : CodeTexts) (reply : Reply) (next : BookFields) → SaysCodes line sent
          → IsBookAttempt middle.held.book (account_attempt_of name moment sent (Some reply)) next
          → (fault ≡ CannotWriteOutput) ⊎ (new.printed ≡ middle.printed) → IsBookText text next → LeavesText
      leaves_book_after sent reply next says due output is_text =
          let (attempts, makes, printed) = answered_lines_are_changes_all input (line ∷ last) old all_passed middle walk in
          let attempt = account_attempt_of name moment sent (Some reply) in (
            next,
            last,
            attempts ++ attempt ∷ [],
            is_text,
            next_line_makes_attempt input line last attempts attempt old.held.book middle.held.book next makes
                (sent, reply, says, refl) due,
            inr (
              attempts,
              attempt,
              refl,
              elim output [
                | inl cannot ↦ inl cannot
                | inr silent ↦
                    inr (subst (λ (o : Option (List ℕ)). Appends old.printed o (printed_replies attempts)) (sym silent) printed)
              ],
            ),
          )

      -- the store held a text of the book as the run began, and may hold the text at its end
      module _ (holds : HoldsItsBook old.held) (may : MayHold new.held.store text) where
        -- up to the fault the store held a text of the book
        held_until_fault : HoldsItsBook middle.held
        held_until_fault = answered_lines_keep_book_held walk.lines old all_passed middle walk.in_turn holds

        -- if nothing was asked of the store at this line, the run left the book after the lines before it
        unasked_leaves_book_before : new.held.store ≡ middle.held.store → new.printed ≡ middle.printed → LeavesText
        unasked_leaves_book_before same silent =
            leaves_book_before (line ∷ last) all_passed middle walk silent
            (held_text_is_of_book middle.held text held_until_fault (subst (λ (s : StoreFacts). MayHold s text) same may))

        -- if the save of this line's attempt failed, the run left the book before or after the attempt
        failed_save_leaves_either : (sent : CodeTexts) (reply : Reply) (next : BookFields) (given : List ℕ) → SaysCodes line sent
            → IsBookAttempt middle.held.book (account_attempt_of name moment sent (Some reply)) next → IsBookText given next
            → IsFailedSave middle.held.store given new.held.store → new.printed ≡ middle.printed → MayHold new.held.store text
            → LeavesText
        failed_save_leaves_either sent reply next given says due is_text fails silent (inl same) = elim fails.saved [
          | inl kept ↦ leaves_book_before (line ∷ last) all_passed middle walk silent
              (subst (λ (t : List ℕ). IsBookText t middle.held.book) (sym (same ∙ kept)) held_until_fault.saved)
          | inr put ↦ leaves_book_after sent reply next says due (inr silent)
              (subst (λ (t : List ℕ). IsBookText t next) (sym (same ∙ put)) is_text)
        ]
        failed_save_leaves_either sent reply next given says due is_text fails silent (inr (failed, same)) =
            leaves_book_after sent reply next says due (inr silent)
            (subst (λ (t : List ℕ). IsBookText t next) (sym (same ∙ fails.begun.asked)) is_text)

        -- if the store was not asked at this line, or failed to save a reply that was due, the run left a book to which attempts led
        lost_reply_leaves_text : (sent : CodeTexts) → SaysCodes line sent
            → (new.held.store ≡ middle.held.store)
            ⊎ IsChangeUnsaved (IsSavingReplyDue name moment sent) middle.held.book middle.held.store NotSaved new.held.store
            → new.printed ≡ middle.printed → LeavesText
        lost_reply_leaves_text sent says (inl same) silent = unasked_leaves_book_before same silent
        lost_reply_leaves_text sent says (inr (next, (None, needs, due), fails)) silent = absurd (false≢true needs)
        lost_reply_leaves_text sent says (inr (next, (Some reply, needs, due), fails)) silent = elim fails.lost [
          | inl (failed, same) ↦ unasked_leaves_book_before same silent
          | inr fails_now ↦ failed_save_leaves_either sent reply next fails.text says due fails.is_text fails_now silent may
        ]

        -- if the reply to this line was saved and not printed, the run left the book with the attempt
        unprinted_reply_leaves_text : (sent : CodeTexts) (reply : Reply) → SaysCodes line sent
            → IsReplySaved IsStored middle.held name moment sent reply new.held → FailsToPrint fault middle.printed new.printed
            → LeavesText
        unprinted_reply_leaves_text sent reply says saved unprinted =
            leaves_book_after sent reply new.held.book says saved.due
            (elim unprinted [ inl cannot ↦ inl cannot | inr short ↦ inr short.1 ])
            (held_text_is_of_book new.held text
            (saved_reply_keeps_book_held IsStored middle.held name moment sent reply new.held saved held_until_fault) may)

        -- a fault at this line leaves a book to which attempts led
        fault_at_line_leaves_text : FailsAtLine IsStored path name moment line middle fault new → LeavesText
        fault_at_line_leaves_text (sent, says, inl (lost, why, silent)) =
            lost_reply_leaves_text sent says (store_was_unasked_or_failed middle.held (IsSavingReplyDue name moment sent) fault new.held.store
            lost.1) silent
        fault_at_line_leaves_text (sent, says, inr (reply, saved, unprinted)) =
            unprinted_reply_leaves_text sent reply says saved unprinted

    -- the law, of a run that a fault ended
    pub answered_lines_are_changes_first : AnswersFirstLines IsStored path name moment input old fault new → HoldsItsBook old.held
        → MayHold new.held.store text → LeavesText
    answered_lines_are_changes_first (inl (last, all_passed, walk, unread)) holds may =
        leaves_book_before last all_passed new walk refl
        (answered_lines_are_changes_saved input last old all_passed new text walk holds may)
    answered_lines_are_changes_first (inr (line, last, all_passed, middle, walk, fails)) holds may =
        fault_at_line_leaves_text line last all_passed middle walk holds may fails
