-- What a reason names as due may replace the numbered line at fault, under its number.
use Rattle.std.proofs.Common.{◌≡◌, inl, inr, ℕ, ◌+◌, List, [], ◌∷◌, ◌++◌, length, refl, sym, ◌∙◌, ap, subst}
use Rattle.std.specs.List.{AllByRecursion, AllZip}
use Rattle.std.proofs.lemmas.Slice.Zip.{all_zipped_more}
use Rattle.scram_text.specs.SplitLines.{LacksLf, ended_by_lf, IsSplit}
use Rattle.scram_text.proofs.lemmas.ListEnds.{appended_lists_keep_all}
use Rattle.account_book.specs.AccountAttempt.{AccountAttempt}
use Rattle.log_grammar.specs.Lines.{LogLine, header_two, said, mechs, cont, accepts, refuses, replies, log_line_text}
use Rattle.log_grammar.specs.Places.{Place, asks_bare, got_first, got_final, got_code, leaving}
use Rattle.log_grammar.specs.Demands.{Accounts, demands}
use Rattle.log_grammar.specs.laws.FitAccounts.{AllCanBeChallenged}
use Rattle.log_grammar.specs.state_machine.Steps.{told_at}
use Rattle.log_grammar.specs.Why.{Why, is_cut, no_line, out_of_order, other_mechs, other_challenge, other_outcome, other_reply, accepted}
use Rattle.log_grammar.specs.Why.{refused_with, class_of, LineClass, of_mechs, of_login_answers, of_replies, IsReasonForAnswer, IsReasonForReply}
use Rattle.log_grammar.specs.Why.{IsReasonForLine}
use Rattle.log_grammar.specs.state_machine.DueClasses.{IsDueAt}
use Rattle.log_grammar.specs.LogKinds.{IsWhyOf}
use Rattle.log_grammar.specs.laws.KindLaws.{BeginsCleanOf}
use Rattle.log_grammar.specs.VersionTwo.{MayBeginVersionTwo, IsReasonAfterFirst, version_two}
use Rattle.log_grammar.specs.Numbered.{Numbered, numbered, IsNumberedLogUpTo}
use Rattle.log_grammar.specs.state_machine.NumberedDueClasses.{ClassMayBeNumbered, ClassMayFollow, IsNumberDueAt}
use Rattle.log_grammar.specs.NumberedLines.{IsNoFirstLine, numbered_text, IsNumberedLine, IsNumberedLineWritable}
use Rattle.log_grammar.specs.state_machine.NumberedSteps.{put, IsNumberedTransition}
use Rattle.log_grammar.specs.laws.Reasons.{SaysWhatIsDue, NamesWhatIsDue}
use Rattle.log_grammar.specs.laws.NumberedReasons.{HasNumberedLineThatMayStand, WhatIsDueMayStandUnderItsNumber, EachNumberedLineThatIsDueMayStand}
use Rattle.log_grammar.proofs.lemmas.reason_laws.DueLines.{said_due_is_named, each_due_line_follows}
use Rattle.log_grammar.proofs.lemmas.kinds.FaultLines.{FaultText, reason_shows_fault_text}
use Rattle.log_grammar.proofs.lemmas.kinds.Fronts.{standing_lines_are_front}
use Rattle.log_grammar.proofs.lemmas.reason_laws.Mended.{some_line_mends_line, named_fault_keeps}
use Rattle.log_grammar.proofs.lemmas.many_sessions.DueClasses.{number_classes_follow_the_place}
use Rattle.log_grammar.proofs.lemmas.lines.NumberedReadBack.{one_numbered_line, numbered_line_lacks_lf, numbered_line_is_writable}
use Rattle.log_grammar.proofs.lemmas.many_sessions.LogSteps.{numbered_log_goes_on}
use Rattle.log_grammar.proofs.lemmas.many_sessions.Standings.{only_busy_has_busy_class}
use Rattle.log_grammar.proofs.lemmas.state_machine.Standings.{Follows}
use Rattle.log_grammar.proofs.lemmas.ListEnds.{front_keeps_all}
use Rattle.log_grammar.proofs.lemmas.completions.NumberedFronts.{version_two_fronts_begin_clean}

-- a numbered line is at fault after lines of version 2, for this reason, where a line of its class is due
record IsNumberedFault (limit : ℕ) (accounts : Accounts) (before : List (List ℕ)) (x : Numbered LogLine) (why : Why) : Type 0 where
  -- the text of the first line
  first : List ℕ
  -- the texts of the lines between it and the one at fault
  texts : List (List ℕ)
  -- these are all texts before the one at fault
  same : before ≡ first ∷ texts
  -- the first line is `SCRAMLOG 2`
  head : first ≡ log_line_text header_two
  -- the numbered lines after it
  log : List (Numbered LogLine)
  -- the texts are those of these lines
  are : AllZip IsNumberedLine texts log
  -- where each number stands after them
  places : ℕ → Place
  -- the replies recorded in them
  told : List AccountAttempt
  -- the lines are a log of version 2, which may be cut short, with these places and replies
  spells : IsNumberedLogUpTo limit (demands accounts) log places told
  -- a line of the class of the one at fault is due under its number
  due : IsNumberDueAt limit log (places x.number) x.number (class_of x.value)
  -- the line itself is wrong there, for this reason
  wrong : IsReasonForLine accounts (places x.number) told x.value why

module _ (limit : ℕ) (accounts : Accounts) where
  -- a text after the first that is at fault for a reason that names what is due is a fault of its numbered line
  later_text_shows_fault : (first : List ℕ) (texts : List (List ℕ)) (text : List ℕ) (log : List (Numbered LogLine)) (x : Numbered LogLine)
      (why : Why)
      → first ≡ log_line_text header_two → AllZip IsNumberedLine texts log → IsNumberedLine text x → NamesWhatIsDue why
      → IsReasonAfterFirst limit accounts log text why → IsNumberedFault limit accounts (first ∷ texts) x why
  later_text_shows_fault first texts text log x why head are is names (inl (again, same)) = absurd (subst NamesWhatIsDue same names)
  later_text_shows_fault first texts text log x why head are is names (inr (inl (other, none, same))) =
      absurd (subst NamesWhatIsDue same names)
  later_text_shows_fault first texts text log x why head are is names (inr (inr (y, also, inl (undue, same)))) =
      absurd (subst NamesWhatIsDue same names)
  later_text_shows_fault first texts text log x why head are is names
      (inr (inr (y, also, inr (class_due, places, told, s, wrong)))) =
      let due = (number_classes_follow_the_place limit accounts log places told y.number (class_of y.value) s).0 class_due in
      subst (λ (z : Numbered LogLine). IsNumberedFault limit accounts (first ∷ texts) z why) (one_numbered_line text y x also is)
      (record {
        first = first;
        texts = texts;
        same = refl;
        head = head;
        log = log;
        are = are;
        places = places;
        told = told;
        spells = s;
        due = due;
        wrong = wrong;
      })

  -- a text at fault after any texts, for a reason that names what is due, is a fault of its numbered line
  fault_text_shows_fault : (before : List (List ℕ)) (text : List ℕ) (x : Numbered LogLine) (why : Why)
      → IsNumberedLine text x → NamesWhatIsDue why → FaultText (version_two limit accounts) before text why
      → IsNumberedFault limit accounts before x why
  fault_text_shows_fault [] text x why is names f = absurd (subst NamesWhatIsDue f.wrong.1 names)
  fault_text_shows_fault (first ∷ texts) text x why is names f =
      let (log, are, wrong) = f.wrong in
      later_text_shows_fault first texts text log x why f.stands.0 are is names wrong

  -- the text of a line at fault for a reason that names what is due is a numbered line
  fault_text_is_numbered : (before : List (List ℕ)) (text : List ℕ) (why : Why) → NamesWhatIsDue why
      → FaultText (version_two limit accounts) before text why → (x : Numbered LogLine) × IsNumberedLine text x
  fault_text_is_numbered [] text why names f = absurd (subst NamesWhatIsDue f.wrong.1 names)
  fault_text_is_numbered (first ∷ texts) text why names f = of_wrong f.wrong.0 f.wrong.2
    where
      of_wrong : (log : List (Numbered LogLine)) → IsReasonAfterFirst limit accounts log text why
          → (x : Numbered LogLine) × IsNumberedLine text x
      of_wrong log (inl (again, same)) = absurd (subst NamesWhatIsDue same names)
      of_wrong log (inr (inl (other, none, same))) = absurd (subst NamesWhatIsDue same names)
      of_wrong log (inr (inr (x, is, wrong))) = (x, is)

  -- the class of a numbered line at fault is due at the place of its number: BUSY is never wrong
  fault_class_is_due : (before : List (List ℕ)) (x : Numbered LogLine) (why : Why) (f : IsNumberedFault limit accounts before x why)
      → IsDueAt (f.places x.number) (class_of x.value)
  fault_class_is_due before x why f = elim f.due.due [
    | inl due ↦ due
    | inr busy ↦ absurd (subst (λ (l : LogLine). IsReasonForLine accounts (f.places x.number) f.told l why)
        (only_busy_has_busy_class x.value busy.1) f.wrong)
  ]

-- the class of the line that a reason names as due
abbrev pub NamesClass : Why → LineClass → Type 0
NamesClass other_mechs class = class ≡ of_mechs
NamesClass other_challenge class = class ≡ of_login_answers
NamesClass (other_outcome due) class = class ≡ of_login_answers
NamesClass (other_reply moment due) class = class ≡ of_replies
NamesClass why class = ⊥

-- a line that says what is due by a reason is of the class that the reason names
pub due_line_has_class : (why : Why) (line : LogLine) → SaysWhatIsDue why line → NamesClass why (class_of line)
due_line_has_class is_cut line says = says
due_line_has_class no_line line says = says
due_line_has_class out_of_order line says = says
due_line_has_class other_mechs line says = ap class_of says
due_line_has_class other_challenge line says = ap class_of says.1
due_line_has_class (other_outcome (accepted signature)) line says = ap class_of says.2
due_line_has_class (other_outcome (refused_with message)) line says = ap class_of says
due_line_has_class (other_reply moment due) line says = ap class_of says

-- the reason why an answer to a login is wrong names the class of such answers
pub wrong_answer_has_class : (accounts : Accounts) (place : Place) (why : Why) → IsReasonForAnswer accounts place why
    → NamesClass why of_login_answers
wrong_answer_has_class accounts (asks_bare m) why (inl (is, same)) = subst (λ (w : Why). NamesClass w of_login_answers) (sym same) refl
wrong_answer_has_class accounts (asks_bare m) why (inr (none, same)) = subst (λ (w : Why). NamesClass w of_login_answers) (sym same) refl
wrong_answer_has_class accounts (got_first m first) why (inl (is, same)) =
    subst (λ (w : Why). NamesClass w of_login_answers) (sym same) refl
wrong_answer_has_class accounts (got_first m first) why (inr (none, same)) =
    subst (λ (w : Why). NamesClass w of_login_answers) (sym same) refl
wrong_answer_has_class accounts (got_final m account first challenge last) why (due, is, same) =
    subst (λ (w : Why). NamesClass w of_login_answers)
    (sym same) refl
wrong_answer_has_class accounts leaving why same = subst (λ (w : Why). NamesClass w of_login_answers) (sym same) refl
wrong_answer_has_class accounts place why wrong = absurd wrong

-- the reason why a reply is wrong names the class of replies
wrong_reply_has_class : (accounts : Accounts) (place : Place) (told : List AccountAttempt) (moment : ℕ) (why : Why)
    → IsReasonForReply accounts place told moment why → NamesClass why of_replies
wrong_reply_has_class accounts (got_code account sent) told moment why (due, is, same) =
    subst (λ (w : Why). NamesClass w of_replies) (sym same) refl
wrong_reply_has_class accounts place told moment why wrong = absurd wrong

-- the reason why a line is wrong names the class of the line
pub wrong_line_has_class : (accounts : Accounts) (place : Place) (told : List AccountAttempt) (line : LogLine) (why : Why)
    → IsReasonForLine accounts place told line why → NamesClass why (class_of line)
wrong_line_has_class accounts place told (said (mechs names)) why wrong = subst (λ (w : Why). NamesClass w of_mechs) (sym wrong) refl
wrong_line_has_class accounts place told (said (cont message)) why wrong = wrong_answer_has_class accounts place why wrong
wrong_line_has_class accounts place told (said (accepts message)) why wrong = wrong_answer_has_class accounts place why wrong
wrong_line_has_class accounts place told (said (refuses message)) why wrong = wrong_answer_has_class accounts place why wrong
wrong_line_has_class accounts place told (said (replies moment reply)) why wrong =
    wrong_reply_has_class accounts place told moment why wrong
wrong_line_has_class accounts place told line why wrong = absurd wrong

-- a reason names at most one class
pub one_class : (why : Why) (one other : LineClass) → NamesClass why one → NamesClass why other → one ≡ other
one_class is_cut one other a b = absurd a
one_class no_line one other a b = absurd a
one_class out_of_order one other a b = absurd a
one_class other_mechs one other a b = a ∙ sym b
one_class other_challenge one other a b = a ∙ sym b
one_class (other_outcome due) one other a b = a ∙ sym b
one_class (other_reply moment due) one other a b = a ∙ sym b

-- a line that says what is due may have a number
pub due_line_may_have_number : (why : Why) (line : LogLine) → SaysWhatIsDue why line → IsNoFirstLine line
due_line_may_have_number is_cut line says = absurd says
due_line_may_have_number no_line line says = absurd says
due_line_may_have_number out_of_order line says = absurd says
due_line_may_have_number other_mechs line says = subst IsNoFirstLine (sym says) tt
due_line_may_have_number other_challenge line says = subst IsNoFirstLine (sym says.1) tt
due_line_may_have_number (other_outcome (accepted signature)) line says = subst IsNoFirstLine (sym says.2) tt
due_line_may_have_number (other_outcome (refused_with message)) line says = subst IsNoFirstLine (sym says) tt
due_line_may_have_number (other_reply moment due) line says = subst IsNoFirstLine (sym says) tt

module _ (limit : ℕ) (accounts : Accounts) (fit : AllCanBeChallenged accounts) where
  -- the lines before a numbered line at fault, with a line that says what is due and may stand at its place, begin a clean log
  due_numbered_begins_clean : (before : List (List ℕ)) (x : Numbered LogLine) (why : Why)
      (f : IsNumberedFault limit accounts before x why) (line : LogLine)
      → AllByRecursion LacksLf before → SaysWhatIsDue why line
      → IsNumberedLineWritable (numbered x.number line) → Follows accounts (f.places x.number) f.told line
      → BeginsCleanOf (version_two limit accounts) (ended_by_lf (before ++ numbered_text (numbered x.number line) ∷ []))
  due_numbered_begins_clean before x why f line lack says writable l =
      let n = x.number in
      let y = numbered n line in
      let same = one_class why (class_of x.value) (class_of line) (wrong_line_has_class accounts (f.places n) f.told x.value why f.wrong)
      (due_line_has_class why line says) in
      let g : IsNumberedTransition limit (demands accounts) f.log f.places f.told n line l.next = record {
        room = (subst (ClassMayBeNumbered limit f.log n) same f.due.room) line refl;
        next = λ earlier z e. (subst (ClassMayFollow z.number z.value n) same (f.due.next earlier z e)) line refl;
        goes = inl l.goes;
        due = l.due;
      } in
      let on = numbered_log_goes_on limit (demands accounts) f.log f.places f.told n line l.next f.spells g in
      let stands : MayBeginVersionTwo limit accounts ((f.first ∷ f.texts) ++ numbered_text y ∷ []) = (
        f.head,
        f.log ++ y ∷ [],
        put n l.next f.places,
        f.told ++ told_at (f.places n) line,
        all_zipped_more IsNumberedLine f.texts f.log (numbered_text y) y f.are writable,
        on,
      ) in
      let all = before ++ numbered_text y ∷ [] in
      let lacks = appended_lists_keep_all LacksLf before (numbered_text y ∷ []) lack
      (numbered_line_lacks_lf (numbered_text y) y writable, tt) in
      version_two_fronts_begin_clean limit accounts fit (ended_by_lf all)
      (standing_lines_are_front (version_two limit accounts) all lacks
      (subst (λ (ts : List (List ℕ)). MayBeginVersionTwo limit accounts (ts ++ numbered_text y ∷ [])) (sym f.same) stands))

  -- what a reason names as due may replace a numbered line at fault, under its number
  numbered_fault_has_due_line : (bytes : List ℕ) (before : List (List ℕ)) (text : List ℕ) (more : List (List ℕ)) (rest : List ℕ)
      (why : Why)
      → IsSplit bytes (before ++ text ∷ more) rest → IsWhyOf (version_two limit accounts) bytes (length before + 1) why
      → NamesWhatIsDue why → HasNumberedLineThatMayStand limit accounts (before ++ text ∷ more) (length before + 1) why
  numbered_fault_has_due_line bytes before text more rest why cut w names =
      let fault = reason_shows_fault_text (version_two limit accounts) bytes before text more rest why cut w in
      let (x, is) = fault_text_is_numbered limit accounts before text why names fault in
      let f = fault_text_shows_fault limit accounts before text x why is names fault in
      let m = some_line_mends_line accounts fit (f.places x.number) f.told (log_line_text x.value) x.value why is.line
      (fault_class_is_due limit accounts before x why f) names f.wrong in
      let writable = numbered_line_is_writable (numbered x.number m.line) is.number (due_line_may_have_number why m.line m.says)
      m.writable in
      record {
        before = before;
        text = text;
        more = more;
        split = refl;
        this = refl;
        at_fault = x;
        is_line = is;
        line = m.line;
        says = m.says;
        writable = writable;
        begins = due_numbered_begins_clean before x why f m.line (front_keeps_all LacksLf before (text ∷ more) cut.lines) m.says writable
            m.follows;
      }

-- the law: if fronts of version 2 begin clean logs, what a reason names as due may replace the line at fault, under its number
pub what_is_due_may_stand_under_its_number : WhatIsDueMayStandUnderItsNumber
what_is_due_may_stand_under_its_number limit accounts fit bytes texts rest k why cut w names =
    named_fault_keeps (version_two limit accounts) (λ ts i. HasNumberedLineThatMayStand limit accounts ts i why) bytes texts rest k why cut
    w names
    (λ before text more here fault.
    numbered_fault_has_due_line limit accounts fit bytes before text more rest why here fault names)

-- the law: if fronts of version 2 begin clean logs, each line that can be written and says what is due, except a challenge, may replace the
-- line at fault, under its number
pub each_numbered_line_that_is_due_may_stand : EachNumberedLineThatIsDueMayStand
each_numbered_line_that_is_due_may_stand limit accounts fit bytes before text more rest why x line cut w other is says writable =
    let f = fault_text_shows_fault limit accounts before text x why is (said_due_is_named why line says writable.line)
    (reason_shows_fault_text (version_two limit accounts) bytes before text more rest why cut w) in
    let l = each_due_line_follows accounts fit (f.places x.number) f.told (log_line_text x.value) x.value why line is.line
    (fault_class_is_due limit accounts before x why f) f.wrong other says writable.line in
    due_numbered_begins_clean limit accounts fit before x why f line
    (front_keeps_all LacksLf before (text ∷ more) cut.lines) says writable l
