-- What a session is told up to its outcome follows from what it was asked: two sessions that were asked the same are told the same.
use Rattle.std.proofs.Common.{◌≡◌, ◌⊎◌, inl, inr, true, ℕ, List, [], ◌∷◌, ◌++◌, refl, sym, ◌∙◌, ap, subst}
use Rattle.scram_ends.specs.Entry.{Entry}
use Rattle.scram_ends.specs.First.{IsChallengeTo}
use Rattle.scram_ends.specs.Opening.{IsOpening}
use Rattle.scram_ends.specs.Stages.{challenged_login}
use Rattle.scram_ends.specs.Verdict.{Due, accept, refuse, IsDue}
use Rattle.log_grammar.specs.Lines.{LogLine, said, cont, accepts, refuses}
use Rattle.log_grammar.specs.Places.{Place, between, got_first, waits_final, got_final, waits_code}
use Rattle.log_grammar.specs.Demands.{Accounts, IsVerdictDue, demands}
use Rattle.log_grammar.specs.state_machine.Steps.{IsTransition}
use Rattle.sasl_desk.specs.Alone.{IsSameRequest, HaveSameRequests, up_to_acceptance, HaveSameEntries}
use Rattle.sasl_desk.specs.Runs.{Request, greets, hears, Call, server_nonce_after, server_nonce_of, IsAnsweredBy, IsRun, call_lines}
use Rattle.sasl_desk.specs.Sessions.{IsPath, IsChallengeWith}
use Rattle.sasl_desk.proofs.lemmas.runs.Acceptances.{has_acceptance, front_brings_acceptance, rest_brings_acceptance, acceptance_cuts_rest}
use Rattle.sasl_desk.proofs.lemmas.runs.OneAnswer.{one_answer_to_call}

-- if two sessions have the same part of the nonce, they still do after calls that asked the same
same_request_has_same_nonce : (request other : Request) (server_nonce theirs : List ℕ) → IsSameRequest request other → server_nonce ≡ theirs
    → server_nonce_after request server_nonce ≡ server_nonce_after other theirs
same_request_has_same_nonce (greets one) (greets two) server_nonce theirs same alike = same
same_request_has_same_nonce (hears event moment) (hears other later) server_nonce theirs same alike = alike
same_request_has_same_nonce request other server_nonce theirs same alike = absurd same

-- after calls that asked the same, one by one, two sessions have the same part of the nonce
same_requests_have_same_nonce : (calls others : List Call) → HaveSameRequests calls others → server_nonce_of calls ≡ server_nonce_of others
same_requests_have_same_nonce [] [] same = refl
same_requests_have_same_nonce (c ∷ calls) (d ∷ others) same = same_request_has_same_nonce c.request d.request (server_nonce_of calls)
    (server_nonce_of others) same.0
    (same_requests_have_same_nonce calls others same.1)
same_requests_have_same_nonce calls others same = absurd same

-- of two runs of a session: both have come to the same acceptance, or they are the same so far and wait for no code
abbrev AreSameOrAccepted : List Call → List Call → Place → Place → Type 0
AreSameOrAccepted calls others at also =
    ((has_acceptance (call_lines calls) ≡ true) × (has_acceptance (call_lines others) ≡ true)
    × (up_to_acceptance (call_lines calls) ≡ up_to_acceptance (call_lines others)))
    ⊎ ((call_lines calls ≡ call_lines others) × (at ≡ also) × ((account : List ℕ) → at ≡ waits_code account → ⊥))

-- two runs of a session that were asked the same are the same so far, or have both come to the same acceptance
runs_are_same_or_accepted : (accounts : Accounts) (calls others : List Call) (at also : Place)
    → IsRun accounts calls at
    → IsRun accounts others also → HaveSameRequests calls others → AreSameOrAccepted calls others at also
runs_are_same_or_accepted accounts [] [] at also run runs same =
    inr (refl, run ∙ sym runs, λ account is. let wrong : between ≡ waits_code account = sym run ∙ is in cc wrong)
runs_are_same_or_accepted accounts (c ∷ calls) (d ∷ others) at also (place, run, answered) (other, runs, answers) same =
    elim (runs_are_same_or_accepted accounts calls others place other run runs same.1) [
      | inl (one, two, told) ↦ inl (
        front_brings_acceptance (call_lines calls) c.lines one,
        front_brings_acceptance (call_lines others) d.lines two,
        acceptance_cuts_rest (call_lines calls) c.lines one ∙ told ∙ sym (acceptance_cuts_rest (call_lines others) d.lines two),
      )
      | inr (lines, here, apart) ↦
          let once = one_answer_to_call accounts place apart c.lines d.lines at also (server_nonce_of calls) (server_nonce_of others)
          c.request d.request (same_requests_have_same_nonce calls others same.1) same.0
          answered (subst (λ (p : Place). IsAnsweredBy accounts (server_nonce_of others) d.request p d.lines also) (sym here) answers) in
          let whole = ap (λ (l : List LogLine). l ++ c.lines) lines ∙ ap (λ (l : List LogLine). call_lines others ++ l) once.0 in
          elim once.2 [
            | inl is ↦
                let accepted = rest_brings_acceptance (call_lines calls) c.lines is in
                inl (accepted, subst (λ (l : List LogLine). has_acceptance l ≡ true) whole accepted, ap up_to_acceptance whole)
            | inr apart_too ↦ inr (whole, once.1, apart_too)
          ]
    ]
runs_are_same_or_accepted accounts calls others at also run runs same = absurd same

-- two sets of accounts, `one` and `other`, with the same entries
module _ (one other : Accounts) (same : HaveSameEntries other one) where
  -- a verdict that is due by `other` is due by `one`
  entries_fix_verdict : (mechanism name first challenge last : List ℕ) (due : Due)
      → IsVerdictDue other mechanism name first challenge last due → IsVerdictDue one mechanism name first challenge last due
  entries_fix_verdict mechanism name first challenge last due (m, named, is) =
      (m, named, subst (λ (e : Entry). IsDue (challenged_login e m first challenge) last due) (same m name) is)

  -- a line that may stand at a place by `other` may stand there by `one`, and leads to the same place
  entries_fix_transition : (at : Place) (line : LogLine) (next : Place)
      → IsTransition (demands other) at line next → IsTransition (demands one) at line next
  entries_fix_transition (got_first m first) (said (cont text)) next (account, c, at) = (
    account,
    record {
      m = c.m;
      offered = c.offered;
      opening = c.opening;
      of_name = c.of_name;
      opens = subst (λ (e : Entry). IsOpening e first text c.opening) (same c.m account) c.opens;
    },
    at,
  )
  entries_fix_transition (got_first m first) line next goes = goes
  entries_fix_transition (got_final m account first challenge last) (said (refuses text)) next ((why, is, e), at) =
      ((why, entries_fix_verdict m account first challenge last (refuse why) is, e), at)
  entries_fix_transition (got_final m account first challenge last) (said (accepts text)) next
      ((signature, is, authentic), at) =
      ((signature, entries_fix_verdict m account first challenge last (accept signature) is, authentic), at)
  entries_fix_transition (got_final m account first challenge last) line next goes = goes
  entries_fix_transition at line next goes = goes

  -- a path by `other` is a path by `one`
  entries_fix_path : (at : Place) (lines : List LogLine) (next : Place)
      → IsPath (demands other) at lines next → IsPath (demands one) at lines next
  entries_fix_path at [] next path = path
  entries_fix_path at (line ∷ lines) next (middle, goes, path) =
      (middle, entries_fix_transition at line middle goes, entries_fix_path middle lines next path)

  -- the challenge of a place that is one by `other` is one by `one`
  entries_fix_challenge : (server_nonce : List ℕ) (at : Place) → IsChallengeWith other server_nonce at
      → IsChallengeWith one server_nonce at
  entries_fix_challenge server_nonce (waits_final mechanism account first challenge) (m, named, is) =
      (m, named, subst (λ (e : Entry). IsChallengeTo e first server_nonce challenge) (same m account) is)
  entries_fix_challenge server_nonce at is = tt

  -- an answer to a request by `other` is one by `one`
  entries_fix_answer : (server_nonce : List ℕ) (request : Request) (at : Place) (lines : List LogLine) (next : Place)
      → IsAnsweredBy other server_nonce request at lines next → IsAnsweredBy one server_nonce request at lines next
  entries_fix_answer server_nonce (greets new) at lines next g = g
  entries_fix_answer server_nonce (hears event moment) at lines next t = record {
    recorded = t.recorded;
    answered = t.answered;
    lines_are = t.lines_are;
    is_record = t.is_record;
    answers = t.answers;
    path = entries_fix_path at lines next t.path;
    rests = t.rests;
    challenge = entries_fix_challenge server_nonce next t.challenge;
    plain = t.plain;
    moments = t.moments;
  }

  -- a run by `other` is a run by `one`
  entries_fix_run : (calls : List Call) (at : Place) → IsRun other calls at → IsRun one calls at
  entries_fix_run [] at run = run
  entries_fix_run (c ∷ calls) at (place, run, answered) = (
    place,
    entries_fix_run calls place run,
    entries_fix_answer (server_nonce_of calls) c.request place c.lines at answered,
  )

-- two runs that were asked the same, over books with the same entries, tell the same up to the acceptance
pub same_requests_bring_same_lines : (one other : Accounts) (calls others : List Call) (at also : Place)
    → HaveSameEntries one other
    → IsRun one calls at
    → IsRun other others also → HaveSameRequests calls others → up_to_acceptance (call_lines calls) ≡ up_to_acceptance (call_lines others)
same_requests_bring_same_lines one other calls others at also entries run runs same =
    elim (runs_are_same_or_accepted one calls others at also run
    (entries_fix_run one other (λ m name. sym (entries m name)) others also runs)
    same) [
      | inl (accepted, too, told) ↦ told
      | inr (lines, here, apart) ↦ ap up_to_acceptance lines
    ]
