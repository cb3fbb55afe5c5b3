-- The line at fault, and the reason for it, are those that follow from what may stand.
use Rattle.std.proofs.Common.{◌≡◌, ◌⊎◌, inl, inr, ℕ, ◌+◌, ◌≤◌, ◌<◌, List, [], ◌∷◌, ◌++◌, length, take, refl, sym, ◌∙◌, ap, subst, arith}
use Rattle.std.proofs.Common.{append-nil}
use Rattle.std.proofs.lemmas.Bool.{cases_lt}
use Rattle.std.proofs.Math.Seq.{take-append_seam, take-length}
use Rattle.scram_text.specs.SplitLines.{LacksLf, ended_by_lf, IsSplit}
use Rattle.scram_text.proofs.lemmas.SplitLines.{lines_up_to_lack_lf}
use Rattle.log_grammar.specs.Demands.{Accounts}
use Rattle.log_grammar.specs.laws.FitAccounts.{AllCanBeChallenged}
use Rattle.log_grammar.specs.Why.{Why, is_cut, no_line}
use Rattle.log_grammar.specs.Versions.{any_version, IsFaultLine, IsWhy}
use Rattle.log_grammar.specs.CleanLogs.{IsCleanLog, BeginsCleanLog}
use Rattle.log_grammar.specs.Faults.{longest_after, IsReasonForNext, NextIsAtFault, IsFault, IsFaultFor}
use Rattle.log_grammar.specs.laws.LogLaws.{BeginsClean}
use Rattle.log_grammar.specs.laws.WholeLogs.{HasReplyInRange, FaultLinesAreOfWholeLogs, ReasonsAreWhatMayStand}
use Rattle.log_grammar.proofs.lemmas.ListEnds.{index_has_element, front_keeps_all, take-append_next}
use Rattle.log_grammar.proofs.lemmas.kinds.AllVersions.{any_version_can_be_shortened}
use Rattle.log_grammar.proofs.lemmas.kinds.AtFault.{end_is_fault_line, end_is_at_fault, text_is_fault_line, text_is_at_fault}
use Rattle.log_grammar.proofs.lemmas.kinds.FaultLines.{reason_shows_fault_text, reason_shows_fault_end}
use Rattle.log_grammar.proofs.lemmas.kinds.OneAnswer.{fault_lines_begin_no_clean_log}
use Rattle.log_grammar.proofs.lemmas.whole_sessions.BothVersions.{clean_log_is_whole, whole_log_is_clean, what_begins_clean_begins_whole}
use Rattle.log_grammar.proofs.lemmas.whole_sessions.BothVersions.{what_begins_whole_begins_clean}
use Rattle.log_grammar.proofs.lemmas.fault_laws.Reasons.{reason_is_shown, shown_reason_is_reason}
use Rattle.log_grammar.proofs.lemmas.fault_laws.WhatStands.{standing_lines_begin, beginning_lines_stand}

-- the longest line that may follow some lines is that of their version
pub longest_is_of_version : (accounts : Accounts) (before : List (List ℕ))
    → longest_after before ≡ (any_version accounts).max_line_len_after before
longest_is_of_version accounts [] = refl
longest_is_of_version accounts (first ∷ more) = refl

module _ (accounts : Accounts) (fit : AllCanBeChallenged accounts) (bytes : List ℕ) where
  -- a whole line with which the lines before it no longer stand is the first at fault
  abbrev whole_line_is_fault : (before : List (List ℕ)) (text : List ℕ) (more : List (List ℕ)) (rest : List ℕ)
      → IsSplit bytes (before ++ text ∷ more) rest → (any_version accounts).MayBegin before
      → ((any_version accounts).MayBegin (before ++ text ∷ []) → ⊥) → IsFault accounts bytes (length before + 1)
  whole_line_is_fault before text more rest cut stands stuck = record {
    before = before;
    after = text ∷ more;
    rest = rest;
    split = cut;
    number = refl;
    begins = standing_lines_begin accounts fit before (front_keeps_all LacksLf before (text ∷ more) cut.lines) stands;
    next = λ more_begins. stuck (beginning_lines_stand accounts fit (before ++ text ∷ []) (lines_up_to_lack_lf before text more cut.lines)
        more_begins);
  }

  -- if all whole lines stand, and the bytes are not clean, what follows them is at fault
  abbrev end_is_fault : (texts : List (List ℕ)) (rest : List ℕ) → IsSplit bytes texts rest → (any_version accounts).MayBegin texts
      → (IsCleanLog accounts bytes → ⊥) → IsFault accounts bytes (length texts + 1)
  end_is_fault texts rest cut stands unclean = record {
    before = texts;
    after = [];
    rest = rest;
    split = subst (λ (ts : List (List ℕ)). IsSplit bytes ts rest) (sym (append-nil texts)) cut;
    number = refl;
    begins = standing_lines_begin accounts fit texts cut.lines stands;
    next = unclean;
  }

  -- a whole line that is at fault, for a reason of the grammar, is so for that of what may stand
  whole_fault_is_shown : (before : List (List ℕ)) (text : List ℕ) (more : List (List ℕ)) (rest : List ℕ) (why : Why)
      → IsSplit bytes (before ++ text ∷ more) rest → IsWhy accounts bytes (length before + 1) why → HasReplyInRange why
      → IsFaultFor accounts bytes (length before + 1) why
  whole_fault_is_shown before text more rest why cut w range =
      let f = reason_shows_fault_text (any_version accounts) bytes before text more rest why cut w in
      let lack = front_keeps_all LacksLf before (text ∷ more) cut.lines in
      record {
        fault = whole_line_is_fault before text more rest cut f.stands f.stuck;
        reason = reason_is_shown accounts fit before text why lack f.stands range f.wrong;
      }

  -- a fault after the last whole line is one
  end_fault_is_shown : (texts : List (List ℕ)) (rest : List ℕ) (why : Why) → IsSplit bytes texts rest
      → IsWhy accounts bytes (length texts + 1) why → IsFaultFor accounts bytes (length texts + 1) why
  end_fault_is_shown texts rest why cut w =
      let f = reason_shows_fault_end (any_version accounts) bytes texts rest why cut w in
      record {
        fault = end_is_fault texts rest cut f.stands (λ whole. f.unclean (whole_log_is_clean accounts fit bytes whole));
        reason = subst (λ (n : ℕ). ((length rest ≤ n) × (why ≡ is_cut)) ⊎ ((n < length rest) × (why ≡ no_line)))
            (sym (longest_is_of_version accounts texts)) f.wrong;
      }

  -- a fault, and its reason by the grammar, are those of what may stand
  fault_is_shown : (k : ℕ) (why : Why) → IsWhy accounts bytes k why → HasReplyInRange why → IsFaultFor accounts bytes k why
  fault_is_shown k why w range = elim (cases_lt w.lines_before (length w.fault.texts)) [
    | inl less ↦
        let (before, text, more, same, at) = index_has_element w.fault.texts w.lines_before less in
        let this : k ≡ length before + 1 = omega (arith, w.this, at) in
        subst (λ (i : ℕ). IsFaultFor accounts bytes i why) (sym this)
        (whole_fault_is_shown before text more w.fault.rest why
        (subst (λ (ts : List (List ℕ)). IsSplit bytes ts w.fault.rest) same w.fault.are_split)
        (subst (λ (i : ℕ). IsWhy accounts bytes i why) this w) range)
    | inr past ↦
        let this : k ≡ length w.fault.texts + 1 = omega (arith, w.this, past, w.fault.among.at_most) in
        subst (λ (i : ℕ). IsFaultFor accounts bytes i why) (sym this)
        (end_fault_is_shown w.fault.texts w.fault.rest why w.fault.are_split (subst (λ (i : ℕ). IsWhy accounts bytes i why) this w))
  ]

  -- a whole line at fault, for the reason that follows from what may stand, is so by the grammar
  shown_line_is_at_fault : (before : List (List ℕ)) (text : List ℕ) (more : List (List ℕ)) (rest : List ℕ) (why : Why)
      → IsSplit bytes (before ++ text ∷ more) rest → BeginsCleanLog accounts (ended_by_lf before)
      → NextIsAtFault accounts bytes before (text ∷ more) → IsReasonForNext accounts before (text ∷ more) rest why
      → IsWhy accounts bytes (length before + 1) why × HasReplyInRange why
  shown_line_is_at_fault before text more rest why cut begins next reason =
      let lack = front_keeps_all LacksLf before (text ∷ more) cut.lines in
      let stands = beginning_lines_stand accounts fit before lack begins in
      let stuck = λ (all : (any_version accounts).MayBegin (before ++ text ∷ [])). next (standing_lines_begin accounts fit
      (before ++ text ∷ []) (lines_up_to_lack_lf before text more cut.lines) all) in
      let own = shown_reason_is_reason accounts fit before text why lack stands stuck reason in (
        text_is_at_fault (any_version accounts) (any_version_can_be_shortened accounts) bytes before text more rest why cut stands stuck own.0,
        own.1,
      )

  -- a reason for what follows the last line names no reply
  end_names_no_reply : (n : ℕ) (rest : List ℕ) (why : Why) → ((length rest ≤ n) × (why ≡ is_cut)) ⊎ ((n < length rest) × (why ≡ no_line))
      → HasReplyInRange why
  end_names_no_reply n rest why (inl cut) = subst HasReplyInRange (sym cut.1) tt
  end_names_no_reply n rest why (inr long) = subst HasReplyInRange (sym long.1) tt

  -- a fault after the last whole line is one by the grammar
  shown_end_is_at_fault : (texts : List (List ℕ)) (rest : List ℕ) (why : Why) → IsSplit bytes texts rest
      → BeginsCleanLog accounts (ended_by_lf texts) → (IsCleanLog accounts bytes → ⊥) → IsReasonForNext accounts texts [] rest why
      → IsWhy accounts bytes (length texts + 1) why × HasReplyInRange why
  shown_end_is_at_fault texts rest why cut begins unclean reason = (
    end_is_at_fault (any_version accounts) (any_version_can_be_shortened accounts) bytes texts rest why cut
        (beginning_lines_stand accounts fit texts cut.lines begins) (λ clean. unclean (clean_log_is_whole accounts fit bytes clean))
        (subst (λ (n : ℕ). ((length rest ≤ n) × (why ≡ is_cut)) ⊎ ((n < length rest) × (why ≡ no_line)))
        (longest_is_of_version accounts texts) reason),
    end_names_no_reply (longest_after texts) rest why reason,
  )

  -- what follows some lines and is at fault, for the reason of what may stand, is so by the grammar
  shown_next_is_at_fault : (before after : List (List ℕ)) (rest : List ℕ) (why : Why) → IsSplit bytes (before ++ after) rest
      → BeginsCleanLog accounts (ended_by_lf before) → NextIsAtFault accounts bytes before after
      → IsReasonForNext accounts before after rest why → IsWhy accounts bytes (length before + 1) why × HasReplyInRange why
  shown_next_is_at_fault before [] rest why cut begins next reason =
      shown_end_is_at_fault before rest why (subst (λ (ts : List (List ℕ)). IsSplit bytes ts rest) (append-nil before) cut) begins next reason
  shown_next_is_at_fault before (text ∷ more) rest why cut begins next reason =
      shown_line_is_at_fault before text more rest why cut begins next reason

  -- a fault, and the reason that follows from what may stand, are those of the grammar
  shown_fault_is_fault : (k : ℕ) (why : Why) → IsFaultFor accounts bytes k why → IsWhy accounts bytes k why × HasReplyInRange why
  shown_fault_is_fault k why f =
      subst (λ (i : ℕ). IsWhy accounts bytes i why × HasReplyInRange why) (sym f.fault.number)
      (shown_next_is_at_fault f.fault.before f.fault.after f.fault.rest why f.fault.split f.fault.begins f.fault.next f.reason)

  -- a fault line begins no log of whole sessions: it is the first at fault
  fault_line_is_fault : (k : ℕ) → IsFaultLine accounts bytes k → IsFault accounts bytes k
  fault_line_is_fault k f =
      let texts = f.texts in
      let (n, at, begins, side) = (fault_lines_begin_no_clean_log accounts fit bytes texts f.rest k f.are_split).0 f in
      elim side [
        | inl within ↦
            let (before, text, more, same, long) = index_has_element texts n (omega (arith, at, within.0)) in
            let this : k ≡ length before + 1 = omega (arith, at, long) in
            let those : take n texts ≡ before = ap (λ (m : ℕ). take m texts) long ∙ ap (take (length before)) same
            ∙ take-append_seam before (text ∷ more) in
            let these : take k texts ≡ before ++ text ∷ [] = ap (λ (m : ℕ). take m texts) this ∙ ap (take (length before + 1)) same
            ∙ take-append_next before text more in
            record {
              before = before;
              after = text ∷ more;
              rest = f.rest;
              split = subst (λ (ts : List (List ℕ)). IsSplit bytes ts f.rest) same f.are_split;
              number = this;
              begins = what_begins_clean_begins_whole accounts fit (ended_by_lf before)
                  (subst (λ (ts : List (List ℕ)). BeginsClean accounts (ended_by_lf ts)) those begins);
              next = λ whole. within.1 (subst (λ (ts : List (List ℕ)). BeginsClean accounts (ended_by_lf ts)) (sym these)
                  (what_begins_whole_begins_clean accounts fit (ended_by_lf (before ++ text ∷ [])) whole));
            }
        | inr past ↦
            let all : take n texts ≡ texts = ap (λ (m : ℕ). take m texts) past.0 ∙ take-length texts in
            record {
              before = texts;
              after = [];
              rest = f.rest;
              split = subst (λ (ts : List (List ℕ)). IsSplit bytes ts f.rest) (sym (append-nil texts)) f.are_split;
              number = omega (arith, at, past.0);
              begins = what_begins_clean_begins_whole accounts fit (ended_by_lf texts)
                  (subst (λ (ts : List (List ℕ)). BeginsClean accounts (ended_by_lf ts)) all begins);
              next = λ whole. past.1 (whole_log_is_clean accounts fit bytes whole);
            }
      ]

  -- what follows some lines and is at fault is the fault line
  next_is_fault_line : (before after : List (List ℕ)) (rest : List ℕ) → IsSplit bytes (before ++ after) rest
      → BeginsCleanLog accounts (ended_by_lf before) → NextIsAtFault accounts bytes before after
      → IsFaultLine accounts bytes (length before + 1)
  next_is_fault_line before [] rest cut begins next =
      let cut' = subst (λ (ts : List (List ℕ)). IsSplit bytes ts rest) (append-nil before) cut in
      end_is_fault_line (any_version accounts) (any_version_can_be_shortened accounts) bytes before rest cut'
      (beginning_lines_stand accounts fit before cut'.lines begins) (λ clean. next (clean_log_is_whole accounts fit bytes clean))
  next_is_fault_line before (text ∷ more) rest cut begins next =
      text_is_fault_line (any_version accounts) (any_version_can_be_shortened accounts) bytes before text more rest cut
      (beginning_lines_stand accounts fit before (front_keeps_all LacksLf before (text ∷ more) cut.lines) begins)
      (λ all. next (standing_lines_begin accounts fit (before ++ text ∷ []) (lines_up_to_lack_lf before text more cut.lines) all))

  -- the first line at fault is the fault line
  fault_is_fault_line : (k : ℕ) → IsFault accounts bytes k → IsFaultLine accounts bytes k
  fault_is_fault_line k f =
      subst (IsFaultLine accounts bytes) (sym f.number) (next_is_fault_line f.before f.after f.rest f.split f.begins f.next)

-- the law: if a challenge can be written for each name, the fault line is the first that begins no log of whole sessions
pub fault_lines_are_of_whole_logs : FaultLinesAreOfWholeLogs
fault_lines_are_of_whole_logs accounts fit bytes k =
    (fault_line_is_fault accounts fit bytes k, fault_is_fault_line accounts fit bytes k)

-- the law: if a challenge can be written for each name, the reason for a fault is what may stand in the place of the line
pub reasons_are_what_may_stand : ReasonsAreWhatMayStand
reasons_are_what_may_stand accounts fit bytes k why =
    (λ w. fault_is_shown accounts fit bytes k why w.0 w.1, shown_fault_is_fault accounts fit bytes k why)
