-- For src/version_two/logins.rt: under a number of a log of version 2, `S OK` may stand exactly as the last message of a valid login, and
-- `S NO` exactly as the refusal that is due.
use Rattle.std.proofs.Common.{inl, refl, sym, subst}
use Rattle.log_grammar.specs.Lines.{said, accepts, refuses}
use Rattle.log_grammar.specs.Places.{Place}
use Rattle.log_grammar.specs.Demands.{demands}
use Rattle.log_grammar.specs.state_machine.NumberedSteps.{IsVisitTransition}
use Rattle.log_grammar.specs.Numbered.{of_number}
use Rattle.log_grammar.specs.laws.NumberedLogins.{NumberedPlacesHaveTheirMessages, EachNumberedOkEndsALogin, EachNumberedRefusalIsDue}
use Rattle.log_grammar.proofs.lemmas.outcome_laws.LeadingLines.{numbers_lead, numbered_log_leads}
use Rattle.log_grammar.proofs.lemmas.outcome_laws.QuietLines.{numbered_log_goes_on_quietly, numbered_line_comes_after}
use Rattle.log_grammar.proofs.lemmas.outcome_laws.PlaceMessages.{lines_have_their_messages}
use Rattle.log_grammar.proofs.lemmas.outcome_laws.ServerLines.{refusal_is_due, due_refusal_may_stand}
use Rattle.log_grammar.proofs.lemmas.login_laws.ValidLogins.{ok_completes_login, completing_ok_may_stand}

-- the law: the messages that a number's place has are those of the number's last lines
pub numbered_places_have_their_messages : NumberedPlacesHaveTheirMessages
numbered_places_have_their_messages limit accounts log places told s n =
    lines_have_their_messages accounts (numbers_lead (demands accounts)) (of_number n log) (places n)
    (numbered_log_leads limit (demands accounts) log places told s n)

-- the law: an `S OK` may stand under a number exactly as the last message of a valid login, whose other messages are in the number's last
-- lines
pub each_numbered_ok_ends_a_login : EachNumberedOkEndsALogin
each_numbered_ok_ends_a_login limit accounts log n server_final next told =
    let d = demands accounts in
    let line = said (accepts server_final) in (
      λ s.
          let (places, after, goes) = numbered_line_comes_after limit accounts log n line next told refl s in
          let (name, login, is_next) = ok_completes_login accounts (numbers_lead d) (of_number n log) server_final
          (places n) (next n) (numbered_log_leads limit d log places told after.spelled n) goes in
          record { name = name; places = places; after = after; login = login; is_next = is_next },
      λ a.
          let goes = completing_ok_may_stand accounts (numbers_lead d) (of_number n log) server_final a.name
          (a.places n) (numbered_log_leads limit d log a.places told a.after.spelled n) a.login in
          numbered_log_goes_on_quietly limit accounts log n line next told refl a.places tt a.after
          (subst (λ (p : Place). IsVisitTransition d (a.places n) line p) (sym a.is_next) (inl goes)),
    )

-- the law: `S NO` may stand under a number if and only if it is the refusal that is due, which no valid login gets
pub each_numbered_refusal_is_due : EachNumberedRefusalIsDue
each_numbered_refusal_is_due limit accounts log n text next told =
    let d = demands accounts in
    let line = said (refuses text) in (
      λ s.
          let (places, after, goes) = numbered_line_comes_after limit accounts log n line next told refl s in
          let due = refusal_is_due accounts (numbers_lead d) (of_number n log) text (places n) (next n)
          (numbered_log_leads limit d log places told after.spelled n) goes in
          record { places = places; after = after; due = due.0; is_next = due.1 },
      λ r.
          numbered_log_goes_on_quietly limit accounts log n line next told refl r.places tt r.after
          (subst (λ (p : Place). IsVisitTransition d (r.places n) line p) (sym r.is_next)
          (inl (due_refusal_may_stand accounts text (r.places n) r.due))),
    )
