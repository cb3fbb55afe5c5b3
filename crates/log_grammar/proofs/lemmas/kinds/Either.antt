-- Logs of two kinds that begin with different lines are one sound kind.
use Rattle.std.proofs.Common.{◌≡◌, ◌⊎◌, inl, inr, ℕ, List, [], ◌∷◌, ◌++◌, refl, sym, ◌∙◌, subst}
use Rattle.mac_core.proofs.lemmas.Decided.{Decided, decided_same_text}
use Rattle.log_grammar.specs.Why.{Why, no_line}
use Rattle.log_grammar.specs.LogKinds.{LogKind, either}
use Rattle.log_grammar.specs.laws.KindLaws.{FrontsBeginCleanOf}
use Rattle.log_grammar.proofs.lemmas.kinds.Sound.{CanBeShortened, CleanLinesStand, HasOneReason, NextIsJudged, IsSound}
use Rattle.log_grammar.proofs.lemmas.kinds.Fronts.{first_lines_stand}
use Rattle.log_grammar.proofs.lemmas.kinds.FaultLines.{FaultText}

-- each log of the kind begins with this line, and it may be alone
pub record IsHeaded (kind : LogKind) (first : List ℕ) : Type 0 where
  pub begins : kind.MayBegin (first ∷ [])
  pub first_is : (text : List ℕ) → kind.MayBegin (text ∷ []) → text ≡ first
  pub empty_is_unclean : kind.AreClean [] → ⊥

-- two kinds whose logs begin with different lines
pub record AreApart (one two : LogKind) (first second : List ℕ) : Type 0 where
  -- their first lines differ
  pub differ : first ≡ second → ⊥
  -- if a log of the first kind may begin with some lines, it may begin with them without the last
  pub one_shorter : CanBeShortened one
  -- if a log of the second kind may begin with some lines, it may begin with them without the last
  pub two_shorter : CanBeShortened two
  -- each log of the first kind begins with its first line, which may be alone
  pub one_headed : IsHeaded one first
  -- each log of the second kind begins with its first line, which may be alone
  pub two_headed : IsHeaded two second

-- lines that a log may begin with have the first line of its kind before all others
pub head_is_first_line : (kind : LogKind) (first : List ℕ) → CanBeShortened kind → IsHeaded kind first
    → (t : List ℕ) (texts : List (List ℕ)) → kind.MayBegin (t ∷ texts) → t ≡ first
head_is_first_line kind first shorter headed t texts stands = headed.first_is t (first_lines_stand kind shorter (t ∷ []) texts stands)

module _ (one two : LogKind) (first second : List ℕ) where
  -- if a log of either kind may begin with some lines, it may begin with them without the last, if this is true in each kind
  pub either_can_be_shortened : CanBeShortened one → CanBeShortened two → CanBeShortened (either one two first second)
  either_can_be_shortened shorter also texts text (inl stands) = inl (shorter texts text stands)
  either_can_be_shortened shorter also texts text (inr stands) = inr (also texts text stands)

  -- a log of either kind may begin with the lines of a clean one, if this is true in each kind
  pub either_clean_lines_stand : CleanLinesStand one → CleanLinesStand two → CleanLinesStand (either one two first second)
  either_clean_lines_stand stand also texts (inl ends) = inl (stand texts ends)
  either_clean_lines_stand stand also texts (inr ends) = inr (also texts ends)

  -- a text after others is wrong for one reason at most, if this is true in each kind and their first lines differ
  pub either_has_one_reason : (first ≡ second → ⊥) → HasOneReason one → HasOneReason two → HasOneReason (either one two first second)
  either_has_one_reason differ once also [] text w v a b = a.2 ∙ sym b.2
  either_has_one_reason differ once also (t ∷ before) text w v (inl a) (inl b) = once (t ∷ before) text w v a.1 b.1
  either_has_one_reason differ once also (t ∷ before) text w v (inl a) (inr b) = absurd (differ (sym a.0 ∙ b.0))
  either_has_one_reason differ once also (t ∷ before) text w v (inr a) (inl b) = absurd (differ (sym b.0 ∙ a.0))
  either_has_one_reason differ once also (t ∷ before) text w v (inr a) (inr b) = also (t ∷ before) text w v a.1 b.1

  -- each front begins a clean log, if this is true in each kind
  pub either_fronts_begin_clean : FrontsBeginCleanOf one → FrontsBeginCleanOf two → FrontsBeginCleanOf (either one two first second)
  either_fronts_begin_clean completes also bytes (texts, cut, inl stands) =
      let (more, clean) = completes bytes (texts, cut, stands) in
      let (all, there, ends) = clean in
      (more, (all, there, inl ends))
  either_fronts_begin_clean completes also bytes (texts, cut, inr stands) =
      let (more, clean) = also bytes (texts, cut, stands) in
      let (all, there, ends) = clean in
      (more, (all, there, inr ends))

  module _ (a : AreApart one two first second) where
    -- lines that begin with the first line of one kind are of that kind
    pub first_line_shows_first_kind : (t : List ℕ) (texts : List (List ℕ)) → t ≡ first → (either one two first second).MayBegin (t ∷ texts)
        → one.MayBegin (t ∷ texts)
    first_line_shows_first_kind t texts is (inl stands) = stands
    first_line_shows_first_kind t texts is (inr stands) =
        absurd (a.differ (sym is ∙ head_is_first_line two second a.two_shorter a.two_headed t texts stands))

    -- lines that begin with the first line of the second kind are of that kind
    first_line_shows_second_kind : (t : List ℕ) (texts : List (List ℕ)) → t ≡ second → (either one two first second).MayBegin (t ∷ texts)
        → two.MayBegin (t ∷ texts)
    first_line_shows_second_kind t texts is (inl stands) =
        absurd (a.differ (sym (head_is_first_line one first a.one_shorter a.one_headed t texts stands) ∙ is))
    first_line_shows_second_kind t texts is (inr stands) = stands

    -- a first text goes on as the first line of one kind, or is wrong as no line
    either_first_text_is_judged : (text : List ℕ) → NextIsJudged (either one two first second) [] text
    either_first_text_is_judged text = elim (decided_same_text text first) [
      | inl is ↦ inl (inl (subst (λ (t : List ℕ). one.MayBegin (t ∷ [])) (sym is) a.one_headed.begins))
      | inr other ↦ elim (decided_same_text text second) [
        | inl is ↦ inl (inr (subst (λ (t : List ℕ). two.MayBegin (t ∷ [])) (sym is) a.two_headed.begins))
        | inr also ↦ inr (
          λ stands. elim stands [ inl here ↦ other (a.one_headed.first_is text here) | inr here ↦ also (a.two_headed.first_is text here) ],
          no_line,
          (other, also, refl),
        )
      ]
    ]

    -- a whole line at fault is a first line, or at fault in one of the kinds
    pub fault_is_first_text_or_of_kind : (before : List (List ℕ)) (text : List ℕ) (why : Why)
        → FaultText (either one two first second) before text why
        → ((before ≡ []) × (why ≡ no_line)) ⊎ (FaultText one before text why ⊎ FaultText two before text why)
    fault_is_first_text_or_of_kind [] text why f = inl (refl, f.wrong.2)
    fault_is_first_text_or_of_kind (t ∷ before) text why f = elim f.wrong [
      | inl wrong ↦ inr (inl (record {
        stands = first_line_shows_first_kind t before wrong.0 f.stands;
        wrong = wrong.1;
        stuck = λ stands. f.stuck (inl stands);
      }))
      | inr wrong ↦ inr (inr (record {
        stands = first_line_shows_second_kind t before wrong.0 f.stands;
        wrong = wrong.1;
        stuck = λ stands. f.stuck (inr stands);
      }))
    ]

    module _ (s : IsSound one) (z : IsSound two) where
      -- it is decidable whether lines that stand are a clean log, if each kind is sound and the two are apart
      decided_either_clean : (texts : List (List ℕ)) → (either one two first second).MayBegin texts
          → Decided ((either one two first second).AreClean texts)
      decided_either_clean [] stands =
          inr (λ ends. elim ends [ inl none ↦ a.one_headed.empty_is_unclean none | inr none ↦ a.two_headed.empty_is_unclean none ])
      decided_either_clean (t ∷ texts) (inl stands) =
          let is = head_is_first_line one first a.one_shorter a.one_headed t texts stands in
          elim (s.decided_clean (t ∷ texts) stands) [
            | inl ends ↦ inl (inl ends)
            | inr none ↦ inr (λ ends. elim ends [
              | inl here ↦ none here
              | inr other ↦ a.differ (sym is ∙ head_is_first_line two second a.two_shorter a.two_headed t texts
                  (z.clean_lines_stand (t ∷ texts) other))
            ])
          ]
      decided_either_clean (t ∷ texts) (inr stands) =
          let is = head_is_first_line two second a.two_shorter a.two_headed t texts stands in
          elim (z.decided_clean (t ∷ texts) stands) [
            | inl ends ↦ inl (inr ends)
            | inr none ↦ inr (λ ends. elim ends [
              | inl other ↦ a.differ (sym (head_is_first_line one first a.one_shorter a.one_headed t texts
                  (s.clean_lines_stand (t ∷ texts) other)) ∙ is)
              | inr here ↦ none here
            ])
          ]

      -- each text after lines that stand is judged, if each kind is sound and the two are apart
      either_next_is_judged : (before : List (List ℕ)) (text : List ℕ) → (either one two first second).MayBegin before
          → NextIsJudged (either one two first second) before text
      either_next_is_judged [] text stands = either_first_text_is_judged text
      either_next_is_judged (t ∷ before) text (inl stands) =
          let is = head_is_first_line one first a.one_shorter a.one_headed t before stands in
          elim (s.next_is_judged (t ∷ before) text stands) [
            | inl on ↦ inl (inl on)
            | inr fault ↦ inr (
              λ more. fault.0 (first_line_shows_first_kind t (before ++ text ∷ []) is more),
              fault.1,
              inl
                  (is, fault.2),
            )
          ]
      either_next_is_judged (t ∷ before) text (inr stands) =
          let is = head_is_first_line two second a.two_shorter a.two_headed t before stands in
          elim (z.next_is_judged (t ∷ before) text stands) [
            | inl on ↦ inl (inr on)
            | inr fault ↦ inr (
              λ more. fault.0 (first_line_shows_second_kind t (before ++ text ∷ []) is more),
              fault.1,
              inr
                  (is, fault.2),
            )
          ]

      -- two sound kinds whose logs begin with different lines are one sound kind together
      pub either_is_sound : IsSound (either one two first second)
      either_is_sound = record {
        nothing = inl s.nothing;
        shorter = either_can_be_shortened s.shorter z.shorter;
        clean_lines_stand = either_clean_lines_stand s.clean_lines_stand z.clean_lines_stand;
        decided_clean = decided_either_clean;
        one_reason = either_has_one_reason a.differ s.one_reason z.one_reason;
        next_is_judged = either_next_is_judged;
      }
