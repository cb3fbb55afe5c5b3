-- In a log of version 1 the reason for a fault is what may stand in the place of the line.
use Rattle.std.proofs.Common.{◌≡◌, inl, inr, ℕ, List, [], ◌∷◌, ◌++◌, refl, sym, subst}
use Rattle.std.specs.List.{AllByRecursion, AllZip}
use Rattle.std.proofs.lemmas.Slice.Zip.{all_zipped_more}
use Rattle.std.specs.declared.option.Option.{Option}
use Rattle.std.specs.declared.option.Option.TheVariants.{None, Some}
use Rattle.scram_text.specs.SplitLines.{LacksLf}
use Rattle.scram_text.proofs.lemmas.ListEnds.{appended_lists_keep_all}
use Rattle.account_book.specs.AccountAttempt.{AccountAttempt}
use Rattle.log_grammar.specs.Lines.{LogLine, header_one, log_line_text, IsLogLine, IsLogLineWritable}
use Rattle.log_grammar.specs.Places.{Place}
use Rattle.log_grammar.specs.Demands.{Accounts, demands}
use Rattle.log_grammar.specs.laws.FitAccounts.{AllCanBeChallenged}
use Rattle.log_grammar.specs.state_machine.Steps.{told_at}
use Rattle.log_grammar.specs.Begins.{Begins}
use Rattle.log_grammar.specs.Why.{Why, class_of, IsClassDue, IsReasonForLine}
use Rattle.log_grammar.specs.VersionOne.{MayBeginVersionOne, IsReasonForText}
use Rattle.log_grammar.specs.Faults.{IsLineAfter, MayStand, IsReason, for_no_line, for_order, for_due}
use Rattle.log_grammar.specs.laws.WholeLogs.{HasReplyInRange}
use Rattle.log_grammar.proofs.lemmas.lines.LackLf.{lines_lack_lf}
use Rattle.log_grammar.proofs.lemmas.demands.StillChallenged.{challenge_meets_demand}
use Rattle.log_grammar.proofs.lemmas.kinds.AllVersions.{header_shows_version_one}
use Rattle.log_grammar.proofs.lemmas.kinds.FirstLinesDiffer.{first_lines_differ}
use Rattle.log_grammar.proofs.lemmas.kinds.VersionOne.{version_one_line_follows, following_class_is_due}
use Rattle.log_grammar.proofs.lemmas.reason_laws.Mended.{some_line_mends_line}
use Rattle.log_grammar.proofs.lemmas.reason_laws.NumberedMended.{wrong_line_has_class}
use Rattle.log_grammar.proofs.lemmas.state_machine.DueClasses.{classes_follow_the_place}
use Rattle.log_grammar.proofs.lemmas.state_machine.LogSteps.{log_goes_on}
use Rattle.log_grammar.proofs.lemmas.state_machine.PlaceBefore.{logs_have_one_reading}
use Rattle.log_grammar.proofs.lemmas.state_machine.Standings.{Follows, line_has_standing}
use Rattle.log_grammar.proofs.lemmas.fault_laws.DueLines.{due_has_class_of_line, due_reply_is_in_range, due_line_is_due, due_line_shows_reason}
use Rattle.log_grammar.proofs.lemmas.fault_laws.DueLines.{named_class_is_named_due, some_line_of_class_follows}
use Rattle.log_grammar.proofs.lemmas.fault_laws.WhatStands.{standing_lines_begin, beginning_lines_stand}

-- a text that is a line can be written as that line
text_of_line_is_writable : (text : List ℕ) (line : LogLine) → IsLogLine text line → IsLogLineWritable line
text_of_line_is_writable text line is = subst (λ (t : List ℕ). IsLogLine t line) is.spelled is

module _ (accounts : Accounts) (fit : AllCanBeChallenged accounts) (texts : List (List ℕ)) (lines : List LogLine) (place : Place)
    (told : List AccountAttempt) (lack : AllByRecursion LacksLf (log_line_text header_one ∷ texts))
    (are : AllZip IsLogLine (log_line_text header_one ∷ texts) lines) (begins : Begins (demands accounts) lines place told) where
  -- a text that is a line is this line after lines of version 1
  line_stands_after : (text : List ℕ) (line : LogLine) → IsLogLine text line
      → IsLineAfter (log_line_text header_one ∷ texts) text None line
  line_stands_after text line is = (is, λ two. absurd (first_lines_differ two))

  -- a line that may stand after lines of version 1 may stand at their place
  standing_line_follows : (line : LogLine) → MayStand accounts (log_line_text header_one ∷ texts) None line
      → Follows accounts place told line
  standing_line_follows line (text, is, more) =
      let lacks = appended_lists_keep_all LacksLf (log_line_text header_one ∷ texts) (text ∷ []) lack
      (lines_lack_lf text line is.0, tt) in
      version_one_line_follows accounts (log_line_text header_one ∷ texts) text lines place told line are begins is.0
      (header_shows_version_one accounts (texts ++ text ∷ [])
      (beginning_lines_stand accounts fit ((log_line_text header_one ∷ texts) ++ text ∷ []) lacks more))

  -- a line that can be written and may stand at the place of lines of version 1 may stand after them
  following_line_stands : (line : LogLine) → IsLogLineWritable line → Follows accounts place told line
      → MayStand accounts (log_line_text header_one ∷ texts) None line
  following_line_stands line writable f =
      let text = log_line_text line in
      let lacks = appended_lists_keep_all LacksLf (log_line_text header_one ∷ texts) (text ∷ []) lack
      (lines_lack_lf text line writable, tt) in
      let stands : MayBeginVersionOne accounts ((log_line_text header_one ∷ texts) ++ text ∷ []) = (
        lines ++ line ∷ [],
        f.next,
        told ++ told_at place line,
        all_zipped_more IsLogLine (log_line_text header_one ∷ texts) lines text line are writable,
        log_goes_on (demands accounts) lines place told line f.next begins f.goes f.due,
      ) in (
        text,
        line_stands_after text line writable,
        standing_lines_begin accounts fit ((log_line_text header_one ∷ texts) ++ text ∷ []) lacks (inl stands),
      )

  -- the class of a line that may stand is due
  standing_class_is_due : (line : LogLine) → MayStand accounts (log_line_text header_one ∷ texts) None line
      → IsClassDue lines (class_of line)
  standing_class_is_due line may =
      (classes_follow_the_place accounts lines place told (class_of line) begins).1
      (following_class_is_due accounts lines place told line begins (standing_line_follows line may))

  -- a text that is no line of a log is none after lines of version 1
  no_line_is_none_after : (text : List ℕ) → ((line : LogLine) → IsLogLine text line → ⊥)
      → (number : Option ℕ) (line : LogLine) → IsLineAfter (log_line_text header_one ∷ texts) text number line → ⊥
  no_line_is_none_after text none None line is = none line is.0
  no_line_is_none_after text none (Some n) line is = first_lines_differ is.1

  -- a line after lines of version 1 is a line of a log without a number
  line_after_is_unnumbered : (text : List ℕ) (number : Option ℕ) (line : LogLine)
      → IsLineAfter (log_line_text header_one ∷ texts) text number line → (number ≡ None) × IsLogLine text line
  line_after_is_unnumbered text None line is = (refl, is.0)
  line_after_is_unnumbered text (Some n) line is = absurd (first_lines_differ is.1)

  -- if a line is wrong at a place that the lines before it lead to, what is due may stand in its place
  wrong_line_has_reason : (text : List ℕ) (line : LogLine) (why : Why) → IsLogLine text line → IsClassDue lines (class_of line)
      → HasReplyInRange why → IsReasonForLine accounts place told line why → IsReason accounts (log_line_text header_one ∷ texts) text why
  wrong_line_has_reason text line why is due range wrong =
      let here = (classes_follow_the_place accounts lines place told (class_of line) begins).0 due in
      let m = some_line_mends_line accounts fit place told text line why is here
      (named_class_is_named_due why line (wrong_line_has_class accounts place told line why wrong) range) wrong in
      for_due None line m.line why (line_stands_after text line is) (following_line_stands m.line m.writable m.follows)
      (due_line_is_due accounts place told line m.line why wrong m.says)

  -- a line of a class that is not due is out of order
  undue_line_is_out_of_order : (text : List ℕ) (line : LogLine) → IsLogLine text line → (IsClassDue lines (class_of line) → ⊥)
      → (other : LogLine) → class_of other ≡ class_of line → MayStand accounts (log_line_text header_one ∷ texts) None other → ⊥
  undue_line_is_out_of_order text line is undue other same may = undue (subst (IsClassDue lines) same (standing_class_is_due other may))

  -- if no line of the class of a line may stand in its place, its class is not due
  out_of_order_line_is_undue : (text : List ℕ) (line : LogLine) → IsLogLine text line
      → ((other : LogLine) → class_of other ≡ class_of line → MayStand accounts (log_line_text header_one ∷ texts) None other → ⊥)
      → IsClassDue lines (class_of line) → ⊥
  out_of_order_line_is_undue text line is none due =
      let here = (classes_follow_the_place accounts lines place told (class_of line) begins).0 due in
      elim (line_has_standing accounts place told line (challenge_meets_demand (demands accounts) lines place told begins)) [
        | inl f ↦ none line refl (following_line_stands line (text_of_line_is_writable text line is) f)
        | inr (inl undue) ↦ undue here
        | inr (inr fails) ↦
            let o = some_line_of_class_follows accounts fit place told text line fails.why is here fails.wrong in
            none o.other o.class (following_line_stands o.other o.writable o.follows)
      ]

  -- if a text is at fault, and its own reason is known at the place that the lines before it lead to, it is that of what may stand
  pub fault_in_turn_has_reason : (first : LogLine) (more : List LogLine) → lines ≡ first ∷ more → (text : List ℕ) (why : Why)
      → HasReplyInRange why → IsReasonForText accounts (first ∷ more) text why
      → IsReason accounts (log_line_text header_one ∷ texts) text why
  fault_in_turn_has_reason first more all text why range (inl (none, same)) =
      subst (IsReason accounts (log_line_text header_one ∷ texts) text) (sym same) (for_no_line (no_line_is_none_after text none))
  fault_in_turn_has_reason first more all text why range (inr (fits, line, is, inl (undue, same))) =
      subst (IsReason accounts (log_line_text header_one ∷ texts) text) (sym same)
      (for_order None line (line_stands_after text line is) (undue_line_is_out_of_order text line is
      (λ due. undue (subst (λ (ls : List LogLine). IsClassDue ls (class_of line)) all due))))
  fault_in_turn_has_reason first more all text why range (inr (fits, line, is, inr (due, at, told_are, begun, wrong))) =
      let there = subst (λ (ls : List LogLine). Begins (demands accounts) ls at told_are) (sym all) begun in
      let one = logs_have_one_reading accounts lines at place told_are told there begins in
      wrong_line_has_reason text line why is (subst (λ (ls : List LogLine). IsClassDue ls (class_of line)) (sym all) due) range
      (subst (λ (p : Place). IsReasonForLine accounts p told line why) one.0
      (subst (λ (t : List AccountAttempt). IsReasonForLine accounts at t line why) one.1 wrong))

  -- the reason that follows from what may stand is that of the place that the lines before lead to
  pub reason_in_turn_is_of_place : (first : LogLine) (more : List LogLine) → lines ≡ first ∷ more → (text : List ℕ) (why : Why)
      → IsReason accounts (log_line_text header_one ∷ texts) text why
      → IsReasonForText accounts (first ∷ more) text why × HasReplyInRange why
  reason_in_turn_is_of_place first more all text why (for_no_line none) =
      (inl (λ line is. none None line (line_stands_after text line is), refl), tt)
  reason_in_turn_is_of_place first more all text why (for_order number line is none) =
      let own = line_after_is_unnumbered text number line is in
      let alone = subst (λ (n : Option ℕ). (other : LogLine) → class_of other ≡ class_of line
      → MayStand accounts (log_line_text header_one ∷ texts) n other → ⊥) own.0 none in (
        inr (
          λ no. no line own.1,
          line,
          own.1,
          inl (
            λ due. out_of_order_line_is_undue text line own.1 alone
                (subst (λ (ls : List LogLine). IsClassDue ls (class_of line)) (sym all) due),
            refl,
          ),
        ),
        tt,
      )
  reason_in_turn_is_of_place first more all text why (for_due number line due w is may due_for) =
      let own = line_after_is_unnumbered text number line is in
      let stands = subst (λ (n : Option ℕ). MayStand accounts (log_line_text header_one ∷ texts) n due) own.0 may in
      let class = subst (IsClassDue lines) (due_has_class_of_line line due w due_for) (standing_class_is_due due stands) in (
        inr (
          λ no. no line own.1,
          line,
          own.1,
          inr (
            subst (λ (ls : List LogLine). IsClassDue ls (class_of line)) all class,
            place,
            told,
            subst (λ (ls : List LogLine). Begins (demands accounts) ls place told) all begins,
            due_line_shows_reason accounts place told line due w due_for (standing_line_follows due stands),
          ),
        ),
        due_reply_is_in_range line due w due_for (text_of_line_is_writable stands.0 due stands.1.0),
      )
