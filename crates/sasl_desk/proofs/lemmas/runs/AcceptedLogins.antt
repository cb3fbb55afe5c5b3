-- In the log of a run, and in the lines of a session of a hall, a login is answered by `S OK` if and only if it is valid.
use Rattle.std.proofs.Common.{inl, inr, true, ℕ, List, [], ◌∷◌, ◌++◌, refl, sym, ◌∙◌, subst, append_assoc, append-nil}
use Rattle.std.specs.declared.option.Option.TheVariants.{Some}
use Rattle.log_grammar.specs.Lines.{LogLine, said, accepts, refuses}
use Rattle.log_grammar.specs.Places.{Place, before_all, between, got_final}
use Rattle.log_grammar.specs.Demands.{Accounts, demands}
use Rattle.log_grammar.specs.state_machine.NumberedSteps.{IsVisitTransition}
use Rattle.log_grammar.specs.Numbered.{turned_away}
use Rattle.log_grammar.specs.laws.Logins.{EndWithThreeMessages}
use Rattle.log_grammar.proofs.lemmas.outcome_laws.LeadingLines.{LeadByLast, NumberLeads, numbers_lead, front_leads}
use Rattle.log_grammar.proofs.lemmas.outcome_laws.PlaceMessages.{three_messages_lead}
use Rattle.log_grammar.proofs.lemmas.outcome_laws.ServerLines.{refusal_is_due}
use Rattle.log_grammar.proofs.lemmas.login_laws.ValidLogins.{granted_messages_are_login, ok_completes_login}
use Rattle.sasl_desk.specs.AcceptedLogins.{BeginWithOutcome, LinesAcceptExactlyValid}
use Rattle.sasl_desk.specs.Halls.{busy_lines, IsSessionRun}
use Rattle.sasl_desk.specs.Runs.{Call, run_lines, IsAtRest, IsRun, call_lines}
use Rattle.sasl_desk.proofs.lemmas.runs.RestingRuns.{run_rests}
use Rattle.sasl_desk.proofs.lemmas.runs.PathLines.{paths_lead, run_is_path, log_is_path}

-- lines that lead to places
module _ (accounts : Accounts) {Leads : List LogLine → Place → Type 0} (l : LeadByLast (demands accounts) Leads) where
  -- a line that may stand where the place has three messages is the outcome of their login
  line_is_outcome : (before : List LogLine) (m account first challenge last : List ℕ) (line : LogLine) (more : List LogLine) (next : Place)
      → Leads before (got_final m account first challenge last)
      → IsVisitTransition (demands accounts) (got_final m account first challenge last) line next
      → BeginWithOutcome accounts m first challenge last (line ∷ more)
  line_is_outcome before m account first challenge last line more next leads (inr busy) = absurd (cc busy.0)
  line_is_outcome before m account first challenge last (said (accepts server_final)) more next leads (inl goes) = (
    account,
    granted_messages_are_login accounts l before m account first challenge last server_final leads goes.0,
  )
  line_is_outcome before m account first challenge last (said (refuses text)) more next leads (inl goes) =
      (refusal_is_due accounts l before text (got_final m account first challenge last) next leads
      (inl goes)).0.1
  line_is_outcome before m account first challenge last line more next leads (inl goes) = absurd goes

  -- after three messages at the end of some lines comes their outcome, if all lines lead to a place where nothing is left to be said
  outcome_follows : (before more : List LogLine) (m first challenge last : List ℕ) (place : Place) → Leads (before ++ more) place
      → IsAtRest place → EndWithThreeMessages before m first challenge last → BeginWithOutcome accounts m first challenge last more
  outcome_follows before [] m first challenge last place leads rests ends =
      let h = subst (λ (x : List LogLine). Leads x place) (append-nil before) leads in
      let three = three_messages_lead l m first challenge last before place ends h in
      absurd (subst IsAtRest three.at rests).1
  outcome_follows before (line ∷ more) m first challenge last place leads rests ends =
      let (next, front) = front_leads l (before ++ line ∷ []) more place
      (subst (λ (x : List LogLine). Leads x place) (sym (append_assoc before (line ∷ []) more)) leads) in
      let (at, earlier, goes) = l.last before line next front in
      let three = three_messages_lead l m first challenge last before at ends earlier in
      line_is_outcome before m three.account first challenge last line more next (subst (λ (p : Place). Leads before p) three.at earlier)
      (subst (λ (p : Place). IsVisitTransition (demands accounts) p line next) three.at goes)

  -- in lines that lead to a place where nothing is left to be said, a login is answered by `S OK` if and only if it is valid
  pub lines_accept_exactly_valid : (lines : List LogLine) (place : Place) → Leads lines place → IsAtRest place
      → LinesAcceptExactlyValid accounts lines
  lines_accept_exactly_valid lines place leads rests = record {
    accepted = λ before server_final more same.
        let line = said (accepts server_final) in
        let (next, front) = front_leads l (before ++ line ∷ []) more place
        (subst (λ (x : List LogLine). Leads x place) (same ∙ sym (append_assoc before (line ∷ []) more)) leads) in
        let (at, earlier, goes) = l.last before line next front in
        let (name, login, is_next) = ok_completes_login accounts l before server_final at next earlier goes in
        (name, login);
    answered = λ before more m first challenge last same ends.
        outcome_follows before more m first challenge last place (subst (λ (x : List LogLine). Leads x place) same leads) rests ends;
  }

module _ (accounts : Accounts) (calls : List Call) (place : Place) where
  -- the law: in the log of a run, a login is answered by `S OK` if and only if it is valid
  pub desk_runs_accept_exactly_valid : IsRun accounts calls place → LinesAcceptExactlyValid accounts (run_lines calls)
  desk_runs_accept_exactly_valid run =
      lines_accept_exactly_valid accounts (paths_lead (demands accounts) before_all (inl refl)) (run_lines calls) place
      (log_is_path accounts calls place run) (run_rests accounts calls place run)

  -- the law: so it does in the lines of each session of a hall; in those of one that was turned away nobody logs in
  pub session_runs_accept_exactly_valid : IsSessionRun accounts calls place → LinesAcceptExactlyValid accounts (call_lines calls)
  session_runs_accept_exactly_valid (inl run) =
      lines_accept_exactly_valid accounts (paths_lead (demands accounts) between (inr refl)) (call_lines calls) place
      (run_is_path accounts calls place run) (run_rests accounts calls place run)
  session_runs_accept_exactly_valid (inr (turned, is)) =
      let away : NumberLeads (demands accounts) busy_lines between =
      record { visit = Some (turned_away true); good = tt; same = refl; at = refl } in
      subst (λ (c : List Call). LinesAcceptExactlyValid accounts (call_lines c)) (sym turned.1)
      (lines_accept_exactly_valid accounts (numbers_lead (demands accounts)) busy_lines between away tt)
