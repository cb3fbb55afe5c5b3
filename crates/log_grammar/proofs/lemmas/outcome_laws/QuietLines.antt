-- Lines that are no replies to codes: a log of either version goes on with one, and the replies in it stay the same.
use Rattle.std.proofs.Common.{◌≡◌, ℕ, false, List, [], ◌∷◌, ◌++◌, reverse, refl, sym, ◌∙◌, ap, subst, append-nil}
use Rattle.otp_core.specs.Attempt.{CodeTexts}
use Rattle.account_book.specs.AccountAttempt.{AccountAttempt}
use Rattle.log_grammar.specs.Lines.{LogLine, said, replies}
use Rattle.log_grammar.specs.Places.{Place, got_code}
use Rattle.log_grammar.specs.Demands.{Accounts, demands, HaveDueReplies}
use Rattle.log_grammar.specs.state_machine.Steps.{IsTransition, told_by_reply, told_at}
use Rattle.log_grammar.specs.Begins.{Begins}
use Rattle.log_grammar.specs.Numbered.{Numbered, numbered, is_reply, MayBeNumbered, IsNumberedLogUpTo}
use Rattle.log_grammar.specs.state_machine.NumberedSteps.{IsVisitTransition, put, IsNumberedTransition}
use Rattle.log_grammar.specs.laws.NumberedLogins.{ComesAfter}
use Rattle.log_grammar.proofs.lemmas.state_machine.LogSteps.{log_goes_on}
use Rattle.log_grammar.proofs.lemmas.many_sessions.LinesOfNumber.{one_and_others_cover_each, put_sets_own, put_keeps_others}
use Rattle.log_grammar.proofs.lemmas.many_sessions.LogSteps.{numbered_log_goes_on, equal_places_spell_log}
use Rattle.log_grammar.proofs.lemmas.many_sessions.WithoutLast.{numbered_log_has_last_transition}

-- a line that is no reply completes no attempt
quiet_line_replies_to_none : (account : List ℕ) (sent : CodeTexts) (line : LogLine) → is_reply line ≡ false
    → told_by_reply account sent line ≡ []
quiet_line_replies_to_none account sent (said (replies moment reply)) quiet = absurd (cc quiet)
quiet_line_replies_to_none account sent line quiet = refl

-- a line that is no reply records none, at whichever place
pub quiet_line_tells_nothing : (at : Place) (line : LogLine) → is_reply line ≡ false → told_at at line ≡ []
quiet_line_tells_nothing (got_code account sent) line quiet = quiet_line_replies_to_none account sent line quiet
quiet_line_tells_nothing at line quiet = refl

-- replies to which a quiet line adds are the same
quiet_line_keeps_replies : (at : Place) (line : LogLine) (all told : List AccountAttempt) → is_reply line ≡ false
    → all ≡ told ++ told_at at line → all ≡ told
quiet_line_keeps_replies at line all told quiet same =
    same ∙ ap (λ (t : List AccountAttempt). told ++ t) (quiet_line_tells_nothing at line quiet) ∙ append-nil told

module _ (accounts : Accounts) (log : List LogLine) where
  -- if no reply was added, the replies recorded in a log's lines are the same
  pub quiet_line_keeps_told : (at : Place) (line : LogLine) (all told : List AccountAttempt) → is_reply line ≡ false
      → all ≡ told ++ told_at at line → Begins (demands accounts) log at told → Begins (demands accounts) log at all
  quiet_line_keeps_told at line all told quiet same begins =
      subst (λ (t : List AccountAttempt). Begins (demands accounts) log at t)
      (sym (quiet_line_keeps_replies at line all told quiet same)) begins

  -- a log continues with a line that records no reply, and its replies stay the same
  pub log_goes_on_quietly : (at : Place) (told : List AccountAttempt) (line : LogLine) (next : Place) → is_reply line ≡ false
      → Begins (demands accounts) log at told → IsTransition (demands accounts) at line next
      → Begins (demands accounts) (log ++ line ∷ []) next told
  log_goes_on_quietly at told line next quiet begins goes =
      let none = quiet_line_tells_nothing at line quiet in
      let due = subst (λ (t : List AccountAttempt). HaveDueReplies (demands accounts) (reverse told) t) (sym none) tt in
      let same = subst (λ (t : List AccountAttempt). told ++ t ≡ told) (sym none) (append-nil told) in
      subst (λ (t : List AccountAttempt). Begins (demands accounts) (log ++ line ∷ []) next t) same
      (log_goes_on (demands accounts) log at told line next begins goes due)

-- a line of a number that is no reply, with what a log is after it
module _ (limit : ℕ) (accounts : Accounts) (log : List (Numbered LogLine)) (n : ℕ) (line : LogLine) (next : ℕ → Place)
    (told : List AccountAttempt) (quiet : is_reply line ≡ false) where
  -- a log of version 2 continues with the line if its number may have it
  pub numbered_log_goes_on_quietly : (places : ℕ → Place) → MayBeNumbered limit log n line
      → ComesAfter limit accounts log places told n line next → IsVisitTransition (demands accounts) (places n) line (next n)
      → IsNumberedLogUpTo limit (demands accounts) (log ++ numbered n line ∷ []) next told
  numbered_log_goes_on_quietly places room after goes =
      let d = demands accounts in
      let more = log ++ numbered n line ∷ [] in
      let none = quiet_line_tells_nothing (places n) line quiet in
      let g : IsNumberedTransition limit d log places told n line (next n) = record {
        room = room;
        next = after.follows;
        goes = goes;
        due = subst (λ (t : List AccountAttempt). HaveDueReplies d (reverse told) t) (sym none) tt;
      } in
      let longer = numbered_log_goes_on limit d log places told n line (next n) after.spelled g in
      let same = one_and_others_cover_each (λ (m : ℕ). put n (next n) places m ≡ next m) n (put_sets_own n (next n) places)
      (λ m other. put_keeps_others n (next n) places m other ∙ sym (after.others m (λ e. other (sym e)))) in
      subst (λ (t : List AccountAttempt). IsNumberedLogUpTo limit d more next t)
      (ap (λ (t : List AccountAttempt). told ++ t) none ∙ append-nil told)
      (equal_places_spell_log limit d more (put n (next n) places) next (told ++ told_at (places n) line) same longer)

  -- the line before the end of a log of version 2 comes after a log, at a place of its number where it may stand
  pub numbered_line_comes_after : IsNumberedLogUpTo limit (demands accounts) (log ++ numbered n line ∷ []) next told
      → (places : ℕ → Place) × ComesAfter limit accounts log places told n line next
      × IsVisitTransition (demands accounts) (places n) line (next n)
  numbered_line_comes_after s =
      let d = demands accounts in
      let b = numbered_log_has_last_transition limit d log n line next told s in (
        b.before,
        record {
          spelled = subst (λ (t : List AccountAttempt). IsNumberedLogUpTo limit d log b.before t)
              (sym (quiet_line_keeps_replies (b.before n) line told b.told quiet b.told_are)) b.spells;
          follows = b.goes.next;
          others = λ m other. b.others m (λ e. other (sym e));
        },
        b.goes.goes,
      )
