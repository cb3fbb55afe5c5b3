-- The answers of a session are those that are due.
use Rattle.std.proofs.Common.{◌≡◌, ℕ, List, [], refl, sym, ap, subst}
use Rattle.std.specs.declared.option.Option.{Option}
use Rattle.std.specs.declared.option.Option.TheVariants.{None, Some}
use Rattle.mac_core.specs.Mechanism.{name_of}
use Rattle.mac_core.specs.declared.mechanism.Mechanism.{Mechanism}
use Rattle.scram_text.specs.Messages.{ClientFirstParts, IsClientFirst, IsServerFinal}
use Rattle.scram_ends.specs.Entry.{Entry}
use Rattle.scram_ends.specs.Stages.{challenged_login}
use Rattle.scram_ends.specs.Opening.{IsTakenUp}
use Rattle.scram_ends.specs.First.{IsRefusedWith, IsChallengeTo}
use Rattle.scram_ends.specs.Standing.{StandsForChallenged}
use Rattle.scram_ends.specs.Verdict.{Due, accept, refuse, IsDue, due_text, final_due, verdict_of}
use Rattle.scram_ends.specs.declared.server.ServerWait.{ServerWait}
use Rattle.scram_ends.specs.declared.first.FirstFault.{FirstFault}
use Rattle.scram_ends.specs.declared.verdict.Verdict.{Verdict}
use Rattle.scram_ends.proofs.lemmas.Opening.{refused_is_not_taken_up}
use Rattle.log_grammar.specs.Places.{Place, between, asks_bare, waits_first, got_first, waits_final, got_final, waits_code, leaving, ending}
use Rattle.log_grammar.specs.Demands.{Accounts, NamesMechanism, IsTakenUpFor}
use Rattle.sasl_log.proofs.lemmas.steps.Logins.{stands_for_equal_login, login_is_challenged}
use Rattle.sasl_desk.specs.ChallengedLogin.{challenged_login_of}
use Rattle.sasl_desk.specs.inner.SessionTurns.{answer_of, verdict_answer, IsBareNoDue, IsAnswer}
use Rattle.sasl_desk.specs.declared.session.Session.TheVariants.{WaitFirst, WaitFinal}
use Rattle.sasl_desk.specs.declared.session.event.Saying.TheVariants.{Nothing, Continues, Refuses}

-- a bare `S NO` is due to a client that is turned away
pub bare_refusal_is_due : (accounts : Accounts) (server_nonce : List ℕ) (at : Place) → IsBareNoDue at
    → IsAnswer accounts server_nonce at (answer_of Refuses None) []
bare_refusal_is_due accounts server_nonce leaving away =
    record { next = between; path = (ending, (refl, refl), (between, refl, refl)); left = refl; challenge = tt; plain = (tt, (tt, tt)) }
bare_refusal_is_due accounts server_nonce (asks_bare mechanism) away =
    record {
      next = between;
      path = (ending, ((away, refl), refl), (between, refl, refl));
      left = refl;
      challenge = tt;
      plain = (tt, (tt, tt));
    }
bare_refusal_is_due accounts server_nonce (got_first mechanism first) away =
    record {
      next = between;
      path = (ending, ((away, refl), refl), (between, refl, refl));
      left = refl;
      challenge = tt;
      plain = (tt, (tt, tt));
    }
bare_refusal_is_due accounts server_nonce at away = absurd away

-- nothing but `E` is due after a client that has gone away
pub end_is_due_after_departure : (accounts : Accounts) (server_nonce : List ℕ)
    → IsAnswer accounts server_nonce ending (answer_of Nothing None) []
end_is_due_after_departure accounts server_nonce = record {
  next = between;
  path = (between, refl, refl);
  left = refl;
  challenge = tt;
  plain = (tt, tt);
}

-- a mechanism that is not offered opens no login
pub unoffered_opens_no_login : (mechanism first : List ℕ) → ((m : Mechanism) → NamesMechanism mechanism m → ⊥) → (name : List ℕ)
    → IsTakenUpFor mechanism first name → ⊥
unoffered_opens_no_login mechanism first unknown name is = unknown is.m is.offered

-- a message that is refused opens no login
pub refused_first_opens_no_login : (mechanism first : List ℕ) (fault : FirstFault) → IsRefusedWith first fault
    → (name : List ℕ)
    → IsTakenUpFor mechanism first name → ⊥
refused_first_opens_no_login mechanism first fault refusal name is =
    refused_is_not_taken_up first fault is.first name is.authzid refusal is.is_first is.taken_up

-- a message that is taken up opens a login by a mechanism that is offered
pub taken_first_opens_login : (mechanism first name : List ℕ) (m : Mechanism) (p : ClientFirstParts) (authzid : Option (List ℕ))
    → NamesMechanism mechanism m
    → IsClientFirst first p → IsTakenUp p name authzid → IsTakenUpFor mechanism first name
taken_first_opens_login mechanism first name m p authzid named is taken =
    record { m = m; offered = named; first = p; authzid = authzid; is_first = is; taken_up = taken }

-- the empty challenge is due to a client that asks for a mechanism that is offered
pub invitation_is_due : (accounts : Accounts) (server_nonce : List ℕ) (mechanism : List ℕ) (m : Mechanism) → NamesMechanism mechanism m
    → IsAnswer accounts server_nonce (asks_bare mechanism) (answer_of Continues (Some (WaitFirst m))) []
invitation_is_due accounts server_nonce mechanism m named = record {
  next = waits_first mechanism;
  path = (waits_first mechanism, (((m, named), refl), refl), refl);
  left = ap waits_first named;
  challenge = tt;
  plain = (tt, tt);
}

-- the server's challenge after a client-first message
module _ (accounts : Accounts) (server_nonce : List ℕ) (wait : ServerWait) (m : Mechanism)
    (mechanism name client_first server_first : List ℕ) where
  -- the challenge that a server writes is due, and the server stands for its login
  account_challenge_is_due : NamesMechanism mechanism m → IsTakenUpFor mechanism client_first name
      → IsChallengeTo (accounts.entry m name) client_first server_nonce server_first
      → StandsForChallenged wait (challenged_login (accounts.entry m name) m client_first server_first)
      → IsAnswer accounts server_nonce (got_first mechanism client_first)
      (answer_of Continues (Some (WaitFinal (challenged_login_of wait m name)))) server_first
  account_challenge_is_due named first shows stands = record {
    next = waits_final mechanism name client_first server_first;
    path = (
      waits_final mechanism name client_first server_first,
      (name, login_is_challenged accounts wait m mechanism name client_first server_first named first stands, refl),
      refl,
    );
    left = (client_first, server_first, ap (λ (t : List ℕ). waits_final t name client_first server_first) named, stands);
    challenge = (m, named, shows);
    plain = (tt, tt);
  }

  -- a challenge of a server that stands for the account's login is due, and the session then waits for the client-final message
  pub challenge_is_due : (message : List ℕ) (entry : Entry) → entry ≡ accounts.entry m name → message ≡ server_first
      → NamesMechanism mechanism m → IsTakenUpFor mechanism client_first name → IsChallengeTo entry client_first server_nonce server_first
      → StandsForChallenged wait (challenged_login entry m client_first server_first)
      → IsAnswer accounts server_nonce (got_first mechanism client_first)
      (answer_of Continues (Some (WaitFinal (challenged_login_of wait m name)))) message
  challenge_is_due message entry same written named first shows stands =
      let here = subst (λ (e : Entry). IsChallengeTo e client_first server_nonce server_first) same shows in
      let stood = stands_for_equal_login wait entry (accounts.entry m name) m client_first client_first server_first same refl stands in
      subst (λ (t : List ℕ). IsAnswer accounts server_nonce (got_first mechanism client_first)
      (answer_of Continues (Some (WaitFinal (challenged_login_of wait m name)))) t)
      (sym written) (account_challenge_is_due named first here stood)

-- the verdict on a client-final message
module _ (accounts : Accounts) (server_nonce : List ℕ) (m : Mechanism) (name client_first server_first client_final : List ℕ) where
  -- an acceptance, or a refusal with the message that says why, is due if its verdict is
  either_verdict_is_due : (d : Due) → IsDue (challenged_login (accounts.entry m name) m client_first server_first) client_final d
      → IsServerFinal (due_text d) (final_due d)
      → IsAnswer accounts server_nonce (got_final (name_of m) name client_first server_first client_final)
      (verdict_answer (verdict_of d) name) (due_text d)
  either_verdict_is_due (accept signature) due is = record {
    next = waits_code name;
    path = (
      waits_code name,
      (
        (
          signature,
          (m, refl, due),
          record { last = final_due (accept signature); is_last = is; not_mandatory = refl; is_verifier = refl },
        ),
        refl,
      ),
      refl,
    );
    left = refl;
    challenge = tt;
    plain = ((signature, is), tt);
  }
  either_verdict_is_due (refuse why) due is = record {
    next = between;
    path = (ending, ((why, (m, refl, due), refl), refl), (between, refl, refl));
    left = refl;
    challenge = tt;
    plain = (tt, (tt, tt));
  }

  -- the answer with the verdict that is due, and its message, is due
  pub verdict_is_due : (message : List ℕ) (v : Verdict) (d : Due)
      → IsDue (challenged_login (accounts.entry m name) m client_first server_first) client_final d → v ≡ verdict_of d
      → message ≡ due_text d → IsServerFinal (due_text d) (final_due d)
      → IsAnswer accounts server_nonce (got_final (name_of m) name client_first server_first client_final) (verdict_answer v name) message
  verdict_is_due message v d due says written is =
      let at = got_final (name_of m) name client_first server_first client_final in
      let worded = subst (λ (w : Verdict). IsAnswer accounts server_nonce at (verdict_answer w name) (due_text d)) (sym says)
      (either_verdict_is_due d due is) in
      subst (λ (t : List ℕ). IsAnswer accounts server_nonce at (verdict_answer v name) t) (sym written) worded
