-- Logs of each kind: the fault line is the first that begins no clean log, and the lines up to it decide the reason.
use Rattle.std.proofs.Common.{◌≡◌, ◌↔◌, inl, inr, ℕ, zero, suc, ◌+◌, ◌≤◌, List, [], ◌∷◌, ◌++◌, length, take, drop, refl, sym, ◌∙◌, ap, subst}
use Rattle.std.proofs.Common.{arith, length-append, append_assoc}
use Rattle.std.specs.List.{AllByRecursion}
use Rattle.std.proofs.Math.Seq.{take-length, drop-length, take-append_seam, drop-append_seam}
use Rattle.std.proofs.lemmas.Bool.{cases_lt}
use Rattle.std.proofs.lemmas.List.{take-append-drop}
use Rattle.scram_text.specs.SplitLines.{LacksLf, ended_by_lf, IsSplit}
use Rattle.scram_text.proofs.lemmas.SplitLines.{one_split, longer_bytes_are_split, lines_up_to_lack_lf, whole_lines_are_split}
use Rattle.log_grammar.specs.Why.{Why}
use Rattle.log_grammar.specs.LogKinds.{LogKind, IsLogFrontOf, IsCleanOf, IsFaultLineOf, IsReasonForNextOf, IsWhyOf}
use Rattle.log_grammar.specs.LogKinds.{IsFaultAmong}
use Rattle.log_grammar.specs.laws.KindLaws.{FrontsBeginCleanOf, FrontsAreWhatBeginsCleanOf, BeginsCleanOf, IsFirstOutsideCleanLogsOf}
use Rattle.log_grammar.proofs.lemmas.ListEnds.{take-append_next, index_has_element, front_keeps_all}
use Rattle.log_grammar.proofs.lemmas.kinds.Sound.{CanBeShortened, CleanLinesStand}
use Rattle.log_grammar.proofs.lemmas.kinds.Fronts.{first_lines_stand, front_lines_stand, standing_lines_are_front}
use Rattle.log_grammar.proofs.lemmas.kinds.AtFault.{text_is_at_fault, end_is_fault_line, text_is_fault_line}
use Rattle.log_grammar.proofs.lemmas.kinds.OneFault.{reason_is_of_next}

-- a whole line that is at fault: the lines before it stand, it is wrong after them, and with it they do not stand
pub record FaultText (kind : LogKind) (before : List (List ℕ)) (text : List ℕ) (why : Why) : Type 0 where
  pub stands : kind.MayBegin before
  pub wrong : kind.IsReason before text why
  pub stuck : kind.MayBegin (before ++ text ∷ []) → ⊥

-- bytes that begin with some lines are cut after each of these lines, with the rest after it
longer_split_is_regrouped : (bytes : List ℕ) (texts before : List (List ℕ)) (text : List ℕ) (middle more : List (List ℕ)) (rest : List ℕ)
    → texts ≡ before ++ text ∷ middle → IsSplit bytes (texts ++ more) rest → IsSplit bytes (before ++ text ∷ (middle ++ more)) rest
longer_split_is_regrouped bytes texts before text middle more rest same cut =
    subst (λ (ts : List (List ℕ)). IsSplit bytes ts rest)
    (ap (λ (ts : List (List ℕ)). ts ++ more) same ∙ append_assoc before (text ∷ middle) more) cut

-- a fault after the last line: all lines stand, and the bytes are not clean
pub record FaultEnd (kind : LogKind) (bytes : List ℕ) (texts : List (List ℕ)) (rest : List ℕ) (why : Why) : Type 0 where
  pub stands : kind.MayBegin texts
  pub unclean : IsCleanOf kind bytes → ⊥
  pub wrong : IsReasonForNextOf kind texts [] rest why

module _ (kind : LogKind) where
  -- a fault line is one among the lines that the bytes are cut into
  fault_is_among_lines : (bytes : List ℕ) (texts : List (List ℕ)) (rest : List ℕ) (k : ℕ) → IsSplit bytes texts rest
      → IsFaultLineOf kind bytes k → IsFaultAmong kind bytes texts k
  fault_is_among_lines bytes texts rest k cut f =
      subst (λ (ts : List (List ℕ)). IsFaultAmong kind bytes ts k) (one_split bytes f.texts texts f.rest rest f.are_split cut).0 f.among

  -- if a log may begin with no lines, no lines at all are a front
  empty_take_is_front : kind.MayBegin [] → (texts : List (List ℕ)) → IsLogFrontOf kind (ended_by_lf (take 0 texts))
  empty_take_is_front nothing [] = standing_lines_are_front kind [] tt nothing
  empty_take_is_front nothing (text ∷ texts) = standing_lines_are_front kind [] tt nothing

  -- a whole line that is at fault is wrong after the lines before it, which stand, and with it they do not stand
  pub reason_shows_fault_text : (bytes : List ℕ) (before : List (List ℕ)) (text : List ℕ) (more : List (List ℕ)) (rest : List ℕ) (why : Why)
      → IsSplit bytes (before ++ text ∷ more) rest → IsWhyOf kind bytes (length before + 1) why → FaultText kind before text why
  reason_shows_fault_text bytes before text more rest why cut w =
      let texts = before ++ text ∷ more in
      let with = before ++ text ∷ [] in
      let long : length texts ≡ length before + suc (length more) = length-append before (text ∷ more) in
      let lack = front_keeps_all LacksLf before (text ∷ more) cut.lines in
      let lacks = lines_up_to_lack_lf before text more cut.lines in
      let f = fault_is_among_lines bytes texts rest (length before + 1) cut w.fault in
      let front = subst (λ (ts : List (List ℕ)). IsLogFrontOf kind (ended_by_lf ts)) (take-append_seam before (text ∷ more))
      (f.below (length before) (omega arith)) in
      let next = reason_is_of_next kind bytes texts rest (length before + 1) (length before) why cut w refl in
      let after = subst (λ (ts : List (List ℕ)). IsReasonForNextOf kind (take (length before) texts) ts rest why)
      (drop-append_seam before (text ∷ more)) next in
      record {
        stands = front_lines_stand kind (ended_by_lf before) before (whole_lines_are_split before lack) front;
        wrong = subst (λ (ts : List (List ℕ)). kind.IsReason ts text why) (take-append_seam before (text ∷ more)) after;
        stuck = λ stands. f.within (omega (arith, long))
            (subst (λ (ts : List (List ℕ)). IsLogFrontOf kind (ended_by_lf ts)) (sym (take-append_next before text more))
            (standing_lines_are_front kind with lacks stands));
      }

  -- if the line after the last is at fault, all lines stand, the bytes are not clean, and what follows the last LF says why
  pub reason_shows_fault_end : (bytes : List ℕ) (texts : List (List ℕ)) (rest : List ℕ) (why : Why) → IsSplit bytes texts rest
      → IsWhyOf kind bytes (length texts + 1) why → FaultEnd kind bytes texts rest why
  reason_shows_fault_end bytes texts rest why cut w =
      let f = fault_is_among_lines bytes texts rest (length texts + 1) cut w.fault in
      let front = subst (λ (ts : List (List ℕ)). IsLogFrontOf kind (ended_by_lf ts)) (take-length texts)
      (f.below (length texts) (omega arith)) in
      let next = reason_is_of_next kind bytes texts rest (length texts + 1) (length texts) why cut w refl in
      let none = subst (λ (ts : List (List ℕ)). IsReasonForNextOf kind (take (length texts) texts) ts rest why) (drop-length texts) next in
      record {
        stands = front_lines_stand kind (ended_by_lf texts) texts (whole_lines_are_split texts cut.lines) front;
        unclean = f.unclean refl;
        wrong = subst (λ (ts : List (List ℕ)). IsReasonForNextOf kind ts [] rest why) (take-length texts) none;
      }

  module _ (shorter : CanBeShortened kind) where
    -- a line that is at fault is so in any bytes that begin with the lines up to it
    fault_holds_elsewhere : (bytes other : List ℕ) (before : List (List ℕ)) (text : List ℕ) (more others : List (List ℕ))
        (rest also : List ℕ) (why : Why)
        → IsSplit bytes (before ++ text ∷ more) rest → IsSplit other (before ++ text ∷ others) also
        → IsWhyOf kind bytes (length before + 1) why → IsWhyOf kind other (length before + 1) why
    fault_holds_elsewhere bytes other before text more others rest also why cut there w =
        let f = reason_shows_fault_text bytes before text more rest why cut w in
        text_is_at_fault kind shorter other before text others also why there f.stands f.stuck f.wrong

    -- a line at fault among these is at fault, for the same reason, whatever follows them
    pub faults_hold_whatever_follows : (bytes other : List ℕ) (texts more others : List (List ℕ)) (rest also : List ℕ) (k : ℕ) (why : Why)
        → IsSplit bytes (texts ++ more) rest → IsSplit other (texts ++ others) also → k ≤ length texts → IsWhyOf kind bytes k why
        → IsWhyOf kind other k why
    faults_hold_whatever_follows bytes other texts more others rest also zero why cut there few w = absurd (omega (arith, w.this))
    faults_hold_whatever_follows bytes other texts more others rest also (suc n) why cut there few w =
        let (before, text, middle, same, at) = index_has_element texts n few in
        let k : suc n ≡ length before + 1 = omega (arith, at) in
        subst (λ (i : ℕ). IsWhyOf kind other i why) (sym k)
        (fault_holds_elsewhere bytes other before text (middle ++ more) (middle ++ others) rest also why
        (longer_split_is_regrouped bytes texts before text middle more rest same cut)
        (longer_split_is_regrouped other texts before text middle others also same there)
        (subst (λ (i : ℕ). IsWhyOf kind bytes i why) k w))

    module _ (stand : CleanLinesStand kind) where
      -- the lines of what begins a clean log stand
      begun_lines_stand : (bytes : List ℕ) (texts : List (List ℕ)) → IsSplit bytes texts [] → BeginsCleanOf kind bytes → kind.MayBegin texts
      begun_lines_stand bytes texts cut (more, clean) =
          let (all, also, ends) = clean in
          let (others, rest, on) = longer_bytes_are_split bytes texts more cut in
          let same = (one_split (bytes ++ more) all (texts ++ others) [] rest also on).0 in
          first_lines_stand kind shorter texts others (subst kind.MayBegin same (stand all ends))

      -- if all lines begin a clean log, but the bytes are not a clean log, the line after the last is the fault line
      unclean_end_is_fault : (bytes : List ℕ) (texts : List (List ℕ)) (rest : List ℕ) → IsSplit bytes texts rest
          → BeginsCleanOf kind (ended_by_lf texts) → (IsCleanOf kind bytes → ⊥) → IsFaultLineOf kind bytes (length texts + 1)
      unclean_end_is_fault bytes texts rest cut begins unclean =
          end_is_fault_line kind shorter bytes texts rest cut
          (begun_lines_stand (ended_by_lf texts) texts (whole_lines_are_split texts cut.lines) begins) unclean

      module _ (completes : FrontsBeginCleanOf kind) where
        -- in a kind in which each front begins a clean log, whole lines are a front if and only if they begin one
        pub front_iff_begins_clean : FrontsAreWhatBeginsCleanOf kind
        front_iff_begins_clean bytes texts cut =
            (λ front. completes bytes front, λ begins. (texts, cut, begun_lines_stand bytes texts cut begins))

        -- first lines of bytes are a front if and only if they begin a clean log
        taken_front_iff_begins_clean : (bytes : List ℕ) (texts : List (List ℕ)) (rest : List ℕ) (j : ℕ) → IsSplit bytes texts rest
            → IsLogFrontOf kind (ended_by_lf (take j texts)) ↔ BeginsCleanOf kind (ended_by_lf (take j texts))
        taken_front_iff_begins_clean bytes texts rest j cut =
            let lack = front_keeps_all LacksLf (take j texts) (drop j texts)
            (subst (AllByRecursion LacksLf) (sym (take-append-drop j texts)) cut.lines) in
            front_iff_begins_clean (ended_by_lf (take j texts)) (take j texts) (whole_lines_are_split (take j texts) lack)

        -- a fault line is the first that begins no clean log
        fault_is_first_outside : kind.MayBegin [] → (bytes : List ℕ) (texts : List (List ℕ)) (rest : List ℕ) (k : ℕ)
            → IsSplit bytes texts rest → IsFaultAmong kind bytes texts k → IsFirstOutsideCleanLogsOf kind bytes texts k
        fault_is_first_outside nothing bytes texts rest zero cut f = absurd (f.within (omega arith) (empty_take_is_front nothing texts))
        fault_is_first_outside nothing bytes texts rest (suc n) cut f =
            let begins = (taken_front_iff_begins_clean bytes texts rest n cut).0 (f.below n (omega arith)) in (
              n,
              omega arith,
              begins,
              elim (cases_lt n (length texts)) [
                | inl less ↦ inl (
                  omega (arith, less),
                  λ longer.
                      f.within (omega (arith, less)) ((taken_front_iff_begins_clean bytes texts rest (suc n) cut).1 longer),
                )
                | inr not ↦ inr (omega (arith, not, f.at_most), f.unclean (omega (arith, not, f.at_most)))
              ],
            )

        -- a whole line with which the lines before it begin no clean log, while these do, is the fault line
        whole_first_outside_is_fault : (bytes : List ℕ) (before : List (List ℕ)) (text : List ℕ) (more : List (List ℕ)) (rest : List ℕ)
            → IsSplit bytes (before ++ text ∷ more) rest → BeginsCleanOf kind (ended_by_lf before)
            → (BeginsCleanOf kind (ended_by_lf (before ++ text ∷ [])) → ⊥) → IsFaultLineOf kind bytes (length before + 1)
        whole_first_outside_is_fault bytes before text more rest cut begins none =
            let lack = front_keeps_all LacksLf before (text ∷ more) cut.lines in
            let with = before ++ text ∷ [] in
            text_is_fault_line kind shorter bytes before text more rest cut
            (begun_lines_stand (ended_by_lf before) before (whole_lines_are_split before lack) begins)
            (λ stands. none (completes (ended_by_lf with)
            (standing_lines_are_front kind with (lines_up_to_lack_lf before text more cut.lines) stands)))

        -- the first line that begins no clean log is the fault line
        first_outside_is_fault : (bytes : List ℕ) (texts : List (List ℕ)) (rest : List ℕ) (k : ℕ) → IsSplit bytes texts rest
            → IsFirstOutsideCleanLogsOf kind bytes texts k → IsFaultLineOf kind bytes k
        first_outside_is_fault bytes texts rest k cut (n, at, begins, inl (within, none)) =
            let (before, text, more, same, long) = index_has_element texts n (omega (arith, at, within)) in
            let those : take n texts ≡ before = ap (λ (m : ℕ). take m texts) long ∙ ap (take (length before)) same
            ∙ take-append_seam before (text ∷ more) in
            let this : k ≡ length before + 1 = omega (arith, at, long) in
            let these : take k texts ≡ before ++ text ∷ [] = ap (λ (m : ℕ). take m texts) this ∙ ap (take (length before + 1)) same
            ∙ take-append_next before text more in
            subst (IsFaultLineOf kind bytes) (sym this)
            (whole_first_outside_is_fault bytes before text more rest (subst (λ (ts : List (List ℕ)). IsSplit bytes ts rest) same cut)
            (subst (λ (ts : List (List ℕ)). BeginsCleanOf kind (ended_by_lf ts)) those begins)
            (λ longer. none (subst (λ (ts : List (List ℕ)). BeginsCleanOf kind (ended_by_lf ts)) (sym these) longer)))
        first_outside_is_fault bytes texts rest k cut (n, at, begins, inr (last, unclean)) =
            let all : take n texts ≡ texts = ap (λ (m : ℕ). take m texts) last ∙ take-length texts in
            let this : k ≡ length texts + 1 = omega (arith, at, last) in
            subst (IsFaultLineOf kind bytes) (sym this)
            (unclean_end_is_fault bytes texts rest cut
            (subst (λ (ts : List (List ℕ)). BeginsCleanOf kind (ended_by_lf ts)) all begins) unclean)

        -- the line at fault is exactly the first that begins no clean log, in a kind in which each front begins one
        pub fault_iff_first_outside : kind.MayBegin [] → (bytes : List ℕ) (texts : List (List ℕ)) (rest : List ℕ) (k : ℕ)
            → IsSplit bytes texts rest → IsFaultLineOf kind bytes k ↔ IsFirstOutsideCleanLogsOf kind bytes texts k
        fault_iff_first_outside nothing bytes texts rest k cut = (
          λ f. fault_is_first_outside nothing bytes texts rest k cut
              (fault_is_among_lines bytes texts rest k cut f),
          λ b. first_outside_is_fault bytes texts rest k cut b,
        )
