-- In a log of version 2 the reason for a fault is what may stand, under its number, in the place of the line.
use Rattle.std.proofs.Common.{◌≡◌, inl, inr, ℕ, List, [], ◌∷◌, ◌++◌, refl, sym, subst}
use Rattle.std.specs.List.{AllByRecursion, AllZip}
use Rattle.std.proofs.lemmas.Slice.Zip.{all_zipped_more}
use Rattle.std.specs.declared.option.Option.{Option}
use Rattle.std.specs.declared.option.Option.TheVariants.{None, Some}
use Rattle.scram_text.specs.SplitLines.{LacksLf}
use Rattle.scram_text.proofs.lemmas.ListEnds.{appended_lists_keep_all}
use Rattle.account_book.specs.AccountAttempt.{AccountAttempt}
use Rattle.log_grammar.specs.Lines.{LogLine, header_one, header_two, said, heard, busy, abort, log_line_text, IsLogLine}
use Rattle.log_grammar.specs.Places.{Place}
use Rattle.log_grammar.specs.Demands.{Accounts, demands}
use Rattle.log_grammar.specs.laws.FitAccounts.{AllCanBeChallenged}
use Rattle.log_grammar.specs.state_machine.Steps.{told_at}
use Rattle.log_grammar.specs.state_machine.NumberedSteps.{put}
use Rattle.log_grammar.specs.state_machine.DueClasses.{IsDueAt}
use Rattle.log_grammar.specs.state_machine.NumberedDueClasses.{ClassMayBeNumbered, ClassMayFollow, IsNumberDueAt}
use Rattle.log_grammar.specs.Why.{Why, out_of_order, class_of, of_header_one, of_header_two, IsReasonForLine}
use Rattle.log_grammar.specs.Numbered.{Numbered, numbered, IsNumberedLogUpTo}
use Rattle.log_grammar.specs.NumberedLines.{IsNoFirstLine, numbered_text, IsNumberedLine, IsNumberedLineWritable}
use Rattle.log_grammar.specs.NumberedClasses.{IsNumberClassDue}
use Rattle.log_grammar.specs.Versions.{max_open_sessions}
use Rattle.log_grammar.specs.VersionTwo.{MayBeginVersionTwo, IsFirstText, IsNumberedReasonAfter, IsReasonAfterFirst}
use Rattle.log_grammar.specs.Faults.{IsLineAfter, MayStand, IsDueFor, IsReason, for_no_line, for_order, for_due}
use Rattle.log_grammar.specs.laws.WholeLogs.{HasReplyInRange}
use Rattle.log_grammar.proofs.lemmas.lines.LackLf.{lines_lack_lf}
use Rattle.log_grammar.proofs.lemmas.lines.NumberedReadBack.{line_text_is_unnumbered, numbered_line_lacks_lf, numbered_line_is_writable}
use Rattle.log_grammar.proofs.lemmas.lines.Written.{header_is_writable, header_two_is_writable}
use Rattle.log_grammar.proofs.lemmas.kinds.AllVersions.{header_two_shows_version_two}
use Rattle.log_grammar.proofs.lemmas.kinds.VersionTwo.{last_is_numbered, version_two_line_follows, one_version_two_reading}
use Rattle.log_grammar.proofs.lemmas.many_sessions.DueClasses.{number_classes_follow_the_place}
use Rattle.log_grammar.proofs.lemmas.many_sessions.LogSteps.{numbered_log_goes_on}
use Rattle.log_grammar.proofs.lemmas.many_sessions.Standings.{NumberFollows, only_busy_has_busy_class, following_line_is_due}
use Rattle.log_grammar.proofs.lemmas.many_sessions.Standings.{numbered_line_has_standing}
use Rattle.log_grammar.proofs.lemmas.reason_laws.Mended.{some_line_mends_line}
use Rattle.log_grammar.proofs.lemmas.reason_laws.NumberedMended.{wrong_line_has_class}
use Rattle.log_grammar.proofs.lemmas.state_machine.Standings.{Follows}
use Rattle.log_grammar.proofs.lemmas.fault_laws.DueLines.{due_has_class_of_line, due_is_not_busy, due_reply_is_in_range, due_line_is_due}
use Rattle.log_grammar.proofs.lemmas.fault_laws.DueLines.{due_line_shows_reason, named_class_is_named_due, some_line_of_class_follows}
use Rattle.log_grammar.proofs.lemmas.fault_laws.WhatStands.{standing_lines_begin, beginning_lines_stand}

-- a first line is no other line
only_first_lines_have_no_number : (text : List ℕ) (line : LogLine) → IsLogLine text line → (IsNoFirstLine line → ⊥) → IsFirstText text
only_first_lines_have_no_number text header_one is first = inl is.spelled
only_first_lines_have_no_number text header_two is first = inr is.spelled
only_first_lines_have_no_number text line is first = absurd (first tt)

-- a line of the class of `SCRAMLOG 1` may have no number
first_class_has_no_number : (line : LogLine) → class_of line ≡ of_header_one → IsNoFirstLine line → ⊥
first_class_has_no_number header_one same has = has
first_class_has_no_number (said busy) same has = absurd (cc same)
first_class_has_no_number (heard abort) same has = absurd (cc same)
first_class_has_no_number line same has = absurd (cc same)

-- a line of the class of `SCRAMLOG 2` may have no number
second_class_has_no_number : (line : LogLine) → class_of line ≡ of_header_two → IsNoFirstLine line → ⊥
second_class_has_no_number header_two same has = has
second_class_has_no_number (said busy) same has = absurd (cc same)
second_class_has_no_number (heard abort) same has = absurd (cc same)
second_class_has_no_number line same has = absurd (cc same)

-- a line of the class of another may have a number if the other may
line_of_class_may_have_number : (line other : LogLine) → class_of other ≡ class_of line → IsNoFirstLine line → IsNoFirstLine other
line_of_class_may_have_number line header_one same has = absurd (first_class_has_no_number line (sym same) has)
line_of_class_may_have_number line header_two same has = absurd (second_class_has_no_number line (sym same) has)
line_of_class_may_have_number line other same has = tt

-- numbered lines with the text of the first line before them
abbrev after_two : List (List ℕ) → List (List ℕ)
after_two texts = log_line_text header_two ∷ texts

module _ (accounts : Accounts) (fit : AllCanBeChallenged accounts) (texts : List (List ℕ)) (log : List (Numbered LogLine))
    (places : ℕ → Place) (told : List AccountAttempt) (lack : AllByRecursion LacksLf (after_two texts))
    (are : AllZip IsNumberedLine texts log) (s : IsNumberedLogUpTo max_open_sessions (demands accounts) log places told) where
  -- no line without a number may stand after lines of version 2
  unnumbered_line_never_stands : (line : LogLine) → MayStand accounts (after_two texts) None line → ⊥
  unnumbered_line_never_stands line (text, is, more) =
      let lacks = appended_lists_keep_all LacksLf (after_two texts) (text ∷ []) lack (lines_lack_lf text line is.0, tt) in
      let stands = header_two_shows_version_two accounts (texts ++ text ∷ [])
      (beginning_lines_stand accounts fit (after_two texts ++ text ∷ []) lacks more) in
      let last = last_is_numbered max_open_sessions accounts (log_line_text header_two) texts text stands in
      line_text_is_unnumbered line last.0 (subst (λ (t : List ℕ). IsNumberedLine t last.0) is.0.spelled last.1)

  -- the log goes on with a line that may stand under a number
  standing_number_follows : (n : ℕ) (line : LogLine) → MayStand accounts (after_two texts) (Some n) line
      → NumberFollows max_open_sessions accounts log places told n line
  standing_number_follows n line (text, is, more) =
      let x = numbered n line in
      let lacks = appended_lists_keep_all LacksLf (after_two texts) (text ∷ []) lack (numbered_line_lacks_lf text x is.0, tt) in
      version_two_line_follows max_open_sessions accounts (log_line_text header_two) texts text log places told x are s is.0
      (header_two_shows_version_two accounts (texts ++ text ∷ [])
      (beginning_lines_stand accounts fit (after_two texts ++ text ∷ []) lacks more))

  -- a line that can be written, and with which the log goes on, may stand
  following_number_stands : (n : ℕ) (line : LogLine) → IsNumberedLineWritable (numbered n line)
      → NumberFollows max_open_sessions accounts log places told n line → MayStand accounts (after_two texts) (Some n) line
  following_number_stands n line writable f =
      let x = numbered n line in
      let text = numbered_text x in
      let lacks = appended_lists_keep_all LacksLf (after_two texts) (text ∷ []) lack (numbered_line_lacks_lf text x writable, tt) in
      let stands : MayBeginVersionTwo max_open_sessions accounts (after_two texts ++ text ∷ []) = (
        refl,
        log ++ x ∷ [],
        put n f.to places,
        told ++ told_at (places n) line,
        all_zipped_more IsNumberedLine texts log text x are writable,
        numbered_log_goes_on max_open_sessions (demands accounts) log places told n line f.to s f.goes,
      ) in (
        text,
        (writable, refl),
        standing_lines_begin accounts fit (after_two texts ++ text ∷ []) lacks (inr stands),
      )

  -- the class of a line that may stand under a number is due there
  standing_number_is_due : (n : ℕ) (line : LogLine) → MayStand accounts (after_two texts) (Some n) line
      → IsNumberClassDue max_open_sessions log n (class_of line)
  standing_number_is_due n line may =
      following_line_is_due max_open_sessions accounts log places told n line s (standing_number_follows n line may)

  -- if a class is due at a number, the log goes on with a line of the class that may stand at its place
  due_line_goes_on : (n : ℕ) (line other : LogLine) → IsNumberDueAt max_open_sessions log (places n) n (class_of line)
      → class_of other ≡ class_of line → Follows accounts (places n) told other
      → NumberFollows max_open_sessions accounts log places told n other
  due_line_goes_on n line other due same f = record {
    to = f.next;
    goes = record {
      room = (subst (ClassMayBeNumbered max_open_sessions log n) (sym same) due.room) other refl;
      next = λ earlier z e. (subst (ClassMayFollow z.number z.value n) (sym same) (due.next earlier z e)) other refl;
      goes = inl f.goes;
      due = f.due;
    };
  }

  -- the class of a line that is wrong is due at the place of its number: BUSY is never wrong
  wrong_class_is_due_at_place : (n : ℕ) (line : LogLine) (why : Why) → IsReasonForLine accounts (places n) told line why
      → IsNumberDueAt max_open_sessions log (places n) n (class_of line) → IsDueAt (places n) (class_of line)
  wrong_class_is_due_at_place n line why wrong here = elim here.due [
    | inl due ↦ due
    | inr turned ↦ absurd (subst (λ (l : LogLine). IsReasonForLine accounts (places n) told l why)
        (only_busy_has_busy_class line turned.1) wrong)
  ]

  -- if a line is wrong at the place of its number, what is due may stand in its place
  wrong_number_has_reason : (n : ℕ) (line : LogLine) (text : List ℕ) (why : Why) → IsNumberedLine text (numbered n line)
      → IsNumberClassDue max_open_sessions log n (class_of line) → HasReplyInRange why
      → IsReasonForLine accounts (places n) told line why → IsReason accounts (after_two texts) text why
  wrong_number_has_reason n line text why is due range wrong =
      let here = (number_classes_follow_the_place max_open_sessions accounts log places told n (class_of line) s).0 due in
      let at = wrong_class_is_due_at_place n line why wrong here in
      let m = some_line_mends_line accounts fit (places n) told (log_line_text line) line why is.line at
      (named_class_is_named_due why line (wrong_line_has_class accounts (places n) told line why wrong) range) wrong in
      let due_for = due_line_is_due accounts (places n) told line m.line why wrong m.says in
      let same = due_has_class_of_line line m.line why due_for in
      let writable = numbered_line_is_writable (numbered n m.line) is.number
      (line_of_class_may_have_number line m.line same is.has_number) m.writable in
      for_due (Some n) line m.line why (is, refl)
      (following_number_stands n m.line writable (due_line_goes_on n line m.line here same m.follows)) due_for

  -- if no line of the class of a numbered line may stand in its place, its class is not due
  out_of_order_number_is_undue : (n : ℕ) (line : LogLine) (text : List ℕ) → IsNumberedLine text (numbered n line)
      → ((other : LogLine) → class_of other ≡ class_of line → MayStand accounts (after_two texts) (Some n) other → ⊥)
      → IsNumberClassDue max_open_sessions log n (class_of line) → ⊥
  out_of_order_number_is_undue n line text is none due =
      elim (numbered_line_has_standing max_open_sessions accounts log places told n line s) [
        | inl f ↦ none line refl (following_number_stands n line
            (numbered_line_is_writable (numbered n line) is.number is.has_number is.line) f)
        | inr (inl undue) ↦ undue due
        | inr (inr fails) ↦
            let here = (number_classes_follow_the_place max_open_sessions accounts log places told n (class_of line) s).0 due in
            let at = wrong_class_is_due_at_place n line fails.why fails.wrong here in
            let o = some_line_of_class_follows accounts fit (places n) told (log_line_text line) line fails.why is.line at fails.wrong in
            none o.other o.class (following_number_stands n o.other
            (numbered_line_is_writable (numbered n o.other) is.number (line_of_class_may_have_number line o.other o.class is.has_number)
            o.writable)
            (due_line_goes_on n line o.other here o.class o.follows))
      ]

  -- what is due under a number may stand at the place of the number
  number_follows_at_place : (n : ℕ) (due : LogLine) (why : Why) (line : LogLine) → IsDueFor line due why
      → NumberFollows max_open_sessions accounts log places told n due → Follows accounts (places n) told due
  number_follows_at_place n due why line due_for f = elim f.goes.goes [
    | inl goes ↦ record { next = f.to; goes = goes; due = f.goes.due }
    | inr turned ↦ absurd (due_is_not_busy line due why due_for turned.1)
  ]

  -- a first line again is out of order
  first_line_again_is_out_of_order : (text : List ℕ) (line : LogLine) → IsLogLine text line → (IsNoFirstLine line → ⊥)
      → IsReason accounts (after_two texts) text out_of_order
  first_line_again_is_out_of_order text line is first =
      for_order None line (is, λ two. first) (λ other same may. unnumbered_line_never_stands other may)

  -- a text that is neither a first line nor a numbered one is no line after lines of version 2
  other_text_is_none_after : (text : List ℕ) → (IsFirstText text → ⊥) → ((x : Numbered LogLine) → IsNumberedLine text x → ⊥)
      → (number : Option ℕ) (line : LogLine) → IsLineAfter (after_two texts) text number line → ⊥
  other_text_is_none_after text other none None line is = other (only_first_lines_have_no_number text line is.0 (is.1 refl))
  other_text_is_none_after text other none (Some n) line is = none (numbered n line) is.0

  -- a numbered line whose reason is known at the place of its number has that of what may stand
  numbered_fault_has_reason : (text : List ℕ) (x : Numbered LogLine) (why : Why) → IsNumberedLine text x → HasReplyInRange why
      → IsNumberedReasonAfter max_open_sessions accounts log x why → IsReason accounts (after_two texts) text why
  numbered_fault_has_reason text x why is range (inl (undue, same)) =
      subst (IsReason accounts (after_two texts) text) (sym same)
      (for_order (Some x.number) x.value (is, refl) (λ other of_class may. undue
      (subst (IsNumberClassDue max_open_sessions log x.number) of_class (standing_number_is_due x.number other may))))
  numbered_fault_has_reason text x why is range (inr (due, at, told_are, r, wrong)) =
      let one = one_version_two_reading max_open_sessions accounts log at places told_are told r s in
      wrong_number_has_reason x.number x.value text why is due range
      (subst (λ (p : Place). IsReasonForLine accounts p told x.value why) (one.0 x.number)
      (subst (λ (t : List AccountAttempt). IsReasonForLine accounts (at x.number) t x.value why) one.1 wrong))

  -- if a text is at fault, and its own reason is known at the places that the lines before it lead to, it is that of what may stand
  pub fault_under_number_has_reason : (text : List ℕ) (why : Why) → HasReplyInRange why
      → IsReasonAfterFirst max_open_sessions accounts log text why → IsReason accounts (after_two texts) text why
  fault_under_number_has_reason text why range (inl (inl is, same)) =
      subst (IsReason accounts (after_two texts) text) (sym same)
      (first_line_again_is_out_of_order text header_one (subst (λ (t : List ℕ). IsLogLine t header_one) (sym is) header_is_writable)
      (λ none. none))
  fault_under_number_has_reason text why range (inl (inr is, same)) =
      subst (IsReason accounts (after_two texts) text) (sym same)
      (first_line_again_is_out_of_order text header_two
      (subst (λ (t : List ℕ). IsLogLine t header_two) (sym is) header_two_is_writable) (λ none. none))
  fault_under_number_has_reason text why range (inr (inl (other, none, same))) =
      subst (IsReason accounts (after_two texts) text) (sym same) (for_no_line (other_text_is_none_after text other none))
  fault_under_number_has_reason text why range (inr (inr (x, is, wrong))) = numbered_fault_has_reason text x why is range wrong

  -- a text that is no line after lines of version 2 is neither a first line nor a numbered one
  none_after_is_no_line : (text : List ℕ) → ((number : Option ℕ) (line : LogLine) → IsLineAfter (after_two texts) text number line → ⊥)
      → (IsFirstText text → ⊥) × ((x : Numbered LogLine) → IsNumberedLine text x → ⊥)
  none_after_is_no_line text none = (
    λ first. first_text_is_line first,
    λ x is. none (Some x.number) x.value (is, refl),
  )
    where
      first_text_is_line : IsFirstText text → ⊥
      first_text_is_line (inl is) =
          none None header_one (subst (λ (t : List ℕ). IsLogLine t header_one) (sym is) header_is_writable, λ two has. has)
      first_text_is_line (inr is) =
          none None header_two (subst (λ (t : List ℕ). IsLogLine t header_two) (sym is) header_two_is_writable, λ two has. has)

  -- the reason that follows from what may stand under a number is that of the places that the lines before lead to
  pub reason_under_number_is_of_place : (text : List ℕ) (why : Why) → IsReason accounts (after_two texts) text why
      → IsReasonAfterFirst max_open_sessions accounts log text why × HasReplyInRange why
  reason_under_number_is_of_place text why (for_no_line none) =
      let no = none_after_is_no_line text none in (inr (inl (no.0, no.1, refl)), tt)
  reason_under_number_is_of_place text why (for_order None line is none) =
      (inl (only_first_lines_have_no_number text line is.0 (is.1 refl), refl), tt)
  reason_under_number_is_of_place text why (for_order (Some n) line is none) =
      (inr (inr (numbered n line, is.0, inl (out_of_order_number_is_undue n line text is.0 none, refl))), tt)
  reason_under_number_is_of_place text why (for_due None line due w is may due_for) = absurd (unnumbered_line_never_stands due may)
  reason_under_number_is_of_place text why (for_due (Some n) line due w is may due_for) =
      let f = standing_number_follows n due may in
      let own = number_follows_at_place n due w line due_for f in
      let class = subst (IsNumberClassDue max_open_sessions log n) (due_has_class_of_line line due w due_for)
      (standing_number_is_due n due may) in (
        inr (inr (numbered n line, is.0, inr (class, places, told, s, due_line_shows_reason accounts (places n) told line due w due_for own))),
        due_reply_is_in_range line due w due_for may.1.0.line,
      )
