-- Each turn of a session is taken as a run says it: the session answered, or a code was judged, with its reply or with a save that failed.
use Rattle.std.proofs.Common.{◌≡◌, ℕ, List, [], ◌∷◌, refl, sym, subst}
use Rattle.std.specs.declared.option.Option.{Option}
use Rattle.otp_core.specs.Attempt.{CodeTexts}
use Rattle.otp_core.specs.declared.token.reply.Reply.{Reply}
use Rattle.book_keeper.specs.declared.keeper.CodeJudged.TheVariants.{Replied, NotSaved}
use Rattle.log_grammar.specs.Lines.{said, heard, replies, halt, code_line}
use Rattle.log_grammar.specs.Places.{Place, waits_code, got_code, ending, halted}
use Rattle.log_grammar.specs.Demands.{Accounts, demands}
use Rattle.log_grammar.proofs.lemmas.state_machine.Shortening.{code_may_stand}
use Rattle.sasl_desk.specs.Events.{ClientEvent}
use Rattle.sasl_desk.specs.Runs.{BearsMoment, IsAnswerLine, IsTurnTaken}
use Rattle.sasl_desk.specs.Sessions.{IsSessionAt, IsPath, IsChallengeWith}
use Rattle.sasl_desk.specs.inner.SessionTurns.{IsDueCode, IsTurnOnEvent, recorded_shown, lines_of_answer, turn_lines}
use Rattle.sasl_desk.specs.inner.TurnResults.{judged_lines}
use Rattle.sasl_desk.specs.declared.session.Session.{Session}
use Rattle.sasl_desk.specs.declared.session.event.Turn.{Turn}
use Rattle.sasl_desk.proofs.lemmas.turns.AnswerLines.{answer_lines_have}
use Rattle.sasl_desk.proofs.lemmas.turns.Paths.{turn_is_path, left_session_rests}

-- a turn on this event, at this moment, of a session that stands at this place
module _ (accounts : Accounts) (server_nonce : List ℕ) (event : ClientEvent) (moment : ℕ) (at : Place) where
  -- a turn that the session itself answers is taken as a run says it
  pub session_turn_is_taken : (kept : List ℕ) (session : Session) (turn : Turn) (message : List ℕ) → kept ≡ server_nonce
      → IsSessionAt accounts at session → (t : IsTurnOnEvent accounts kept event at turn message)
      → IsTurnTaken accounts server_nonce event moment at (turn_lines turn message) t.is_answer.next
  session_turn_is_taken kept session turn message same is t = record {
    recorded = recorded_shown turn.recorded;
    answered = lines_of_answer turn.answer message;
    lines_are = refl;
    is_record = t.is_record;
    answers = answer_lines_have IsAnswerLine (λ text. tt) (λ text. tt) (λ text. tt) tt turn.answer.says turn.answer.session message;
    path = turn_is_path accounts kept event at session turn message is t;
    rests = left_session_rests accounts t.is_answer.next turn.answer.session t.is_answer.left;
    challenge = subst (λ (o : List ℕ). IsChallengeWith accounts o t.is_answer.next) same t.is_answer.challenge;
    plain = t.is_answer.plain;
    moments = answer_lines_have (BearsMoment moment) (λ text. tt) (λ text. tt) (λ text. tt) tt turn.answer.says turn.answer.session message;
  }

  -- a turn with a code, or two in a row, and its reply is taken as a run says it
  pub reply_turn_is_taken : (name : List ℕ) (sent : CodeTexts) (reply : Option Reply) → IsDueCode event at name sent
      → IsTurnTaken accounts server_nonce event moment at (judged_lines moment sent (Replied reply)) (waits_code name)
  reply_turn_is_taken name sent reply due = record {
    recorded = heard (code_line sent);
    answered = said (replies moment reply) ∷ [];
    lines_are = refl;
    is_record = due.is_record;
    answers = (tt, tt);
    path = subst (λ (p : Place). IsPath (demands accounts) p (judged_lines moment sent (Replied reply)) (waits_code name)) (sym due.place)
        (got_code name sent, code_may_stand name sent, (waits_code name, refl, refl));
    rests = (ending, refl);
    challenge = tt;
    plain = (tt, tt);
    moments = (refl, tt);
  }

  -- a turn with a code, or two in a row, whose save failed is taken as a run says it
  pub halt_turn_is_taken : (name : List ℕ) (sent : CodeTexts) → IsDueCode event at name sent
      → IsTurnTaken accounts server_nonce event moment at (judged_lines moment sent NotSaved) halted
  halt_turn_is_taken name sent due = record {
    recorded = heard (code_line sent);
    answered = said halt ∷ [];
    lines_are = refl;
    is_record = due.is_record;
    answers = (tt, tt);
    path = subst (λ (p : Place). IsPath (demands accounts) p (judged_lines moment sent NotSaved) halted) (sym due.place)
        (got_code name sent, code_may_stand name sent, (halted, refl, refl));
    rests = tt;
    challenge = tt;
    plain = (tt, tt);
    moments = (tt, tt);
  }
