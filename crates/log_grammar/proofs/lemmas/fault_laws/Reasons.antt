-- The reason for a fault in a log of either version is what may stand in the place of the line.
use Rattle.std.proofs.Common.{inl, inr, ℕ, List, [], ◌∷◌, ◌++◌, refl, sym, subst}
use Rattle.std.specs.List.{AllByRecursion}
use Rattle.scram_text.specs.SplitLines.{LacksLf}
use Rattle.log_grammar.specs.Lines.{LogLine, header_one, header_two, log_line_text}
use Rattle.log_grammar.specs.Demands.{Accounts}
use Rattle.log_grammar.specs.laws.FitAccounts.{AllCanBeChallenged}
use Rattle.log_grammar.specs.Why.{Why}
use Rattle.log_grammar.specs.Numbered.{Numbered}
use Rattle.log_grammar.specs.VersionOne.{MayBeginVersionOne, IsReasonInVersionOne, IsReasonForText}
use Rattle.log_grammar.specs.VersionTwo.{MayBeginVersionTwo, IsReasonInVersionTwo, IsReasonAfterFirst}
use Rattle.log_grammar.specs.Versions.{max_open_sessions, any_version}
use Rattle.log_grammar.specs.Faults.{IsReason, for_no_line, for_order, for_due}
use Rattle.log_grammar.specs.laws.WholeLogs.{HasReplyInRange}
use Rattle.log_grammar.proofs.lemmas.kinds.AllVersions.{version_one_begins_with_header, header_shows_version_one, header_two_shows_version_two}
use Rattle.log_grammar.proofs.lemmas.kinds.OneWhy.{one_list_of_lines}
use Rattle.log_grammar.proofs.lemmas.kinds.VersionOne.{version_one_is_headed}
use Rattle.log_grammar.proofs.lemmas.kinds.VersionTwo.{version_two_is_headed, one_list_of_numbered_lines}
use Rattle.log_grammar.proofs.lemmas.fault_laws.InTurn.{fault_in_turn_has_reason, reason_in_turn_is_of_place}
use Rattle.log_grammar.proofs.lemmas.fault_laws.UnderNumbers.{fault_under_number_has_reason, reason_under_number_is_of_place}

module _ (accounts : Accounts) (fit : AllCanBeChallenged accounts) where
  -- after lines of version 1, the reason of that version is that of what may stand
  reason_in_version_one_is_shown : (texts : List (List ℕ)) (text : List ℕ) (why : Why)
      → AllByRecursion LacksLf (log_line_text header_one ∷ texts) → MayBeginVersionOne accounts (log_line_text header_one ∷ texts)
      → HasReplyInRange why → IsReasonInVersionOne accounts (log_line_text header_one ∷ texts) text why
      → IsReason accounts (log_line_text header_one ∷ texts) text why
  reason_in_version_one_is_shown texts text why lack ([], place, told, are, begins) range wrong = absurd are
  reason_in_version_one_is_shown texts text why lack (first ∷ lines, place, told, are, begins) range (read, also, wrong) =
      fault_in_turn_has_reason accounts fit texts (first ∷ lines) place told lack are begins first lines refl text why range
      (subst (λ (ls : List LogLine). IsReasonForText accounts ls text why)
      (one_list_of_lines (log_line_text header_one ∷ texts) read (first ∷ lines) also are) wrong)

  -- after lines of version 1, the reason that follows from what may stand is that of the version
  shown_reason_is_in_version_one : (texts : List (List ℕ)) (text : List ℕ) (why : Why)
      → AllByRecursion LacksLf (log_line_text header_one ∷ texts) → MayBeginVersionOne accounts (log_line_text header_one ∷ texts)
      → IsReason accounts (log_line_text header_one ∷ texts) text why
      → IsReasonInVersionOne accounts (log_line_text header_one ∷ texts) text why × HasReplyInRange why
  shown_reason_is_in_version_one texts text why lack ([], place, told, are, begins) reason = absurd are
  shown_reason_is_in_version_one texts text why lack (first ∷ lines, place, told, are, begins) reason =
      let own = reason_in_turn_is_of_place accounts fit texts (first ∷ lines) place told lack are begins first lines refl text why reason in
      ((first ∷ lines, are, own.0), own.1)

  -- after lines of version 2, the reason of that version is that of what may stand
  reason_in_version_two_is_shown : (texts : List (List ℕ)) (text : List ℕ) (why : Why)
      → AllByRecursion LacksLf (log_line_text header_two ∷ texts)
      → MayBeginVersionTwo max_open_sessions accounts (log_line_text header_two ∷ texts)
      → HasReplyInRange why → IsReasonInVersionTwo max_open_sessions accounts (log_line_text header_two ∷ texts) text why
      → IsReason accounts (log_line_text header_two ∷ texts) text why
  reason_in_version_two_is_shown texts text why lack (head, log, places, told, are, s) range (read, also, wrong) =
      fault_under_number_has_reason accounts fit texts log places told lack are s text why range
      (subst (λ (ls : List (Numbered LogLine)). IsReasonAfterFirst max_open_sessions accounts ls text why)
      (one_list_of_numbered_lines texts read log also are) wrong)

  -- after lines of version 2, the reason that follows from what may stand is that of the version
  shown_reason_is_in_version_two : (texts : List (List ℕ)) (text : List ℕ) (why : Why)
      → AllByRecursion LacksLf (log_line_text header_two ∷ texts)
      → MayBeginVersionTwo max_open_sessions accounts (log_line_text header_two ∷ texts)
      → IsReason accounts (log_line_text header_two ∷ texts) text why
      → IsReasonInVersionTwo max_open_sessions accounts (log_line_text header_two ∷ texts) text why × HasReplyInRange why
  shown_reason_is_in_version_two texts text why lack (head, log, places, told, are, s) reason =
      let own = reason_under_number_is_of_place accounts fit texts log places told lack are s text why reason in
      ((log, are, own.0), own.1)

  -- a first text is at fault only if it is no first line of a log
  first_text_has_reason : (text : List ℕ) (why : Why) → ((any_version accounts).MayBegin (text ∷ []) → ⊥) → IsReason accounts [] text why
      → (any_version accounts).IsReason [] text why × HasReplyInRange why
  first_text_has_reason text why stuck (for_no_line none) = (
    (
      λ one. stuck (subst (λ (t : List ℕ). (any_version accounts).MayBegin (t ∷ [])) (sym one) (inl (version_one_is_headed accounts).begins)),
      λ two. stuck (subst (λ (t : List ℕ). (any_version accounts).MayBegin (t ∷ [])) (sym two)
          (inr (version_two_is_headed max_open_sessions accounts).begins)),
      refl,
    ),
    tt,
  )
  first_text_has_reason text why stuck (for_order number line is none) = absurd is
  first_text_has_reason text why stuck (for_due number line due w is may due_for) = absurd is

  -- the reason for a fault, as the grammar has it, is that of what may stand
  pub reason_is_shown : (before : List (List ℕ)) (text : List ℕ) (why : Why) → AllByRecursion LacksLf before
      → (any_version accounts).MayBegin before → HasReplyInRange why → (any_version accounts).IsReason before text why
      → IsReason accounts before text why
  reason_is_shown [] text why lack stands range wrong =
      subst (IsReason accounts [] text) (sym wrong.2) (for_no_line (λ number line is. is))
  reason_is_shown (t ∷ texts) text why lack stands range (inl (one, wrong)) =
      subst (λ (h : List ℕ). IsReason accounts (h ∷ texts) text why) (sym one)
      (reason_in_version_one_is_shown texts text why (subst (λ (h : List ℕ). AllByRecursion LacksLf (h ∷ texts)) one lack)
      (header_shows_version_one accounts texts (subst (λ (h : List ℕ). (any_version accounts).MayBegin (h ∷ texts)) one stands)) range
      (subst (λ (h : List ℕ). IsReasonInVersionOne accounts (h ∷ texts) text why) one wrong))
  reason_is_shown (t ∷ texts) text why lack stands range (inr (two, wrong)) =
      subst (λ (h : List ℕ). IsReason accounts (h ∷ texts) text why) (sym two)
      (reason_in_version_two_is_shown texts text why (subst (λ (h : List ℕ). AllByRecursion LacksLf (h ∷ texts)) two lack)
      (header_two_shows_version_two accounts texts (subst (λ (h : List ℕ). (any_version accounts).MayBegin (h ∷ texts)) two stands)) range
      (subst (λ (h : List ℕ). IsReasonInVersionTwo max_open_sessions accounts (h ∷ texts) text why) two wrong))

  -- the reason that follows from what may stand is that of the grammar
  pub shown_reason_is_reason : (before : List (List ℕ)) (text : List ℕ) (why : Why) → AllByRecursion LacksLf before
      → (any_version accounts).MayBegin before → ((any_version accounts).MayBegin (before ++ text ∷ []) → ⊥)
      → IsReason accounts before text why → (any_version accounts).IsReason before text why × HasReplyInRange why
  shown_reason_is_reason [] text why lack stands stuck reason = first_text_has_reason text why stuck reason
  shown_reason_is_reason (t ∷ texts) text why lack (inl stands) stuck reason =
      let one = version_one_begins_with_header accounts t texts stands in
      let own = shown_reason_is_in_version_one texts text why (subst (λ (h : List ℕ). AllByRecursion LacksLf (h ∷ texts)) one lack)
      (subst (λ (h : List ℕ). MayBeginVersionOne accounts (h ∷ texts)) one stands)
      (subst (λ (h : List ℕ). IsReason accounts (h ∷ texts) text why) one reason) in
      (inl (one, subst (λ (h : List ℕ). IsReasonInVersionOne accounts (h ∷ texts) text why) (sym one) own.0), own.1)
  shown_reason_is_reason (t ∷ texts) text why lack (inr stands) stuck reason =
      let two = stands.0 in
      let own = shown_reason_is_in_version_two texts text why (subst (λ (h : List ℕ). AllByRecursion LacksLf (h ∷ texts)) two lack)
      (subst (λ (h : List ℕ). MayBeginVersionTwo max_open_sessions accounts (h ∷ texts)) two stands)
      (subst (λ (h : List ℕ). IsReason accounts (h ∷ texts) text why) two reason) in
      (inr (two, subst (λ (h : List ℕ). IsReasonInVersionTwo max_open_sessions accounts (h ∷ texts) text why) (sym two) own.0), own.1)
