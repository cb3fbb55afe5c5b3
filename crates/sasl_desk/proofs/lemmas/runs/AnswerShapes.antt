-- The shapes of answers: which lines may answer at each place where an answer is due, and to which place they lead.
use Rattle.std.proofs.Common.{◌≡◌, ◌⊎◌, inl, inr, true, ℕ, List, [], ◌∷◌, refl, sym, ◌∙◌, ap, subst}
use Rattle.std.specs.List.{AllByRecursion}
use Rattle.mac_core.specs.declared.mechanism.Mechanism.{Mechanism}
use Rattle.scram_ends.specs.Login.{IsAuthentic}
use Rattle.scram_ends.specs.Verdict.{accept, refuse, due_text}
use Rattle.scram_ends.specs.declared.verdict.Refusal.{Refusal}
use Rattle.log_grammar.specs.Lines.{LogLine, header_one, header_two, said, heard, bad, gone, ended, mechs, cont, accepts, refuses}
use Rattle.log_grammar.specs.Places.{Place, between, offered, asks_bare, waits_first, got_first, waits_final, got_final, waits_code, leaving, ending}
use Rattle.log_grammar.specs.Demands.{Accounts, Demands, NamesMechanism, IsTakenUpFor, IsChallenged, IsVerdictDue, demands}
use Rattle.log_grammar.specs.state_machine.Steps.{IsTransition}
use Rattle.sasl_desk.specs.Runs.{IsAtRest, IsAnswerLine}
use Rattle.sasl_desk.specs.DueLines.{is_client_turn}
use Rattle.sasl_desk.specs.Sessions.{IsPath}
use Rattle.sasl_desk.proofs.lemmas.runs.Acceptances.{has_acceptance}

-- at this place the server has something to say, other than a reply
abbrev pub IsAnswerDue : Place → Type 0
IsAnswerDue leaving = Unit {0}
IsAnswerDue ending = Unit {0}
IsAnswerDue (asks_bare mechanism) = Unit {0}
IsAnswerDue (got_first mechanism first) = Unit {0}
IsAnswerDue (got_final mechanism account first challenge last) = Unit {0}
IsAnswerDue at = ⊥

-- a path of lines of an answer, by what is demanded
module _ (d : Demands) where
  -- a path of lines of an answer that leads from between sessions has no line
  between_path_is_empty : (lines : List LogLine) (next : Place) → IsPath d between lines next → AllByRecursion IsAnswerLine lines
      → (lines ≡ []) × (next ≡ between)
  between_path_is_empty [] next path all = (refl, path)
  between_path_is_empty (said (mechs names) ∷ lines) next path all = absurd all.0
  between_path_is_empty (line ∷ lines) next (middle, goes, path) all = absurd goes

  -- a path of lines of an answer that leads from where `E` is due is `E` alone
  pub ending_path_is_end : (lines : List LogLine) (next : Place) → IsPath d ending lines next → AllByRecursion IsAnswerLine lines
      → IsAtRest next → (lines ≡ ended ∷ []) × (next ≡ between)
  ending_path_is_end [] next path all rests = absurd (subst IsAtRest path rests).1
  ending_path_is_end (ended ∷ lines) next (middle, goes, path) all rests =
      let rest = between_path_is_empty lines next (subst (λ (p : Place). IsPath d p lines next) goes path) all.1 in
      (ap (λ (l : List LogLine). ended ∷ l) rest.0, rest.1)
  ending_path_is_end (line ∷ lines) next (middle, goes, path) all rests = absurd goes

  -- no line of an answer may stand at a client's turn
  no_answer_stands_at_client_turn : (at next : Place) (line : LogLine) → is_client_turn at ≡ true → IsAnswerLine line
      → IsTransition d at line next → ⊥
  no_answer_stands_at_client_turn at next header_one turn is goes = is
  no_answer_stands_at_client_turn at next header_two turn is goes = is
  no_answer_stands_at_client_turn at next (heard line) turn is goes = is
  no_answer_stands_at_client_turn at next bad turn is goes = is
  no_answer_stands_at_client_turn at next gone turn is goes = is
  no_answer_stands_at_client_turn offered next (said line) turn is goes = goes
  no_answer_stands_at_client_turn offered next ended turn is goes = goes
  no_answer_stands_at_client_turn (waits_first mechanism) next (said line) turn is goes = goes
  no_answer_stands_at_client_turn (waits_first mechanism) next ended turn is goes = goes
  no_answer_stands_at_client_turn (waits_final mechanism account first challenge) next (said line) turn is goes = goes
  no_answer_stands_at_client_turn (waits_final mechanism account first challenge) next ended turn is goes = goes
  no_answer_stands_at_client_turn (waits_code account) next (said line) turn is goes = goes
  no_answer_stands_at_client_turn (waits_code account) next ended turn is goes = goes
  no_answer_stands_at_client_turn at next line turn is goes = absurd (cc turn)

  -- a path of lines of an answer that leads from a client's turn has no line
  client_turn_path_is_empty : (at : Place) (lines : List LogLine) (next : Place) → is_client_turn at ≡ true → IsPath d at lines next
      → AllByRecursion IsAnswerLine lines → (lines ≡ []) × (next ≡ at)
  client_turn_path_is_empty at [] next turn path all = (refl, path)
  client_turn_path_is_empty at (line ∷ lines) next turn (middle, goes, path) all =
      absurd (no_answer_stands_at_client_turn at middle line turn all.0 goes)

-- the lines are a refusal with this text, after which only `E` is due
abbrev pub IsRefusal : (text : List ℕ) → List LogLine → Place → Type 0
IsRefusal text lines next = (lines ≡ said (refuses text) ∷ ended ∷ []) × (next ≡ between)

-- the lines are an answer that may stand at this place, if one is due there, and lead to the next. Of other places nothing is said.
abbrev pub HasShapeAt : Accounts → Place → List LogLine → Place → Type 0
HasShapeAt accounts leaving lines next = IsRefusal [] lines next
HasShapeAt accounts ending lines next = (lines ≡ ended ∷ []) × (next ≡ between)
HasShapeAt accounts (asks_bare mechanism) lines next =
    (((m : Mechanism) → NamesMechanism mechanism m → ⊥) × IsRefusal [] lines next)
    ⊎ (((m : Mechanism) × NamesMechanism mechanism m) × ((lines ≡ said (cont []) ∷ []) × (next ≡ waits_first mechanism)))
HasShapeAt accounts (got_first mechanism first) lines next =
    (((name : List ℕ) → IsTakenUpFor mechanism first name → ⊥) × IsRefusal [] lines next)
    ⊎ ((account : List ℕ) × (text : List ℕ) × IsChallenged accounts mechanism account first text
    × ((lines ≡ said (cont text) ∷ []) × (next ≡ waits_final mechanism account first text)))
HasShapeAt accounts (got_final mechanism account first challenge last) lines next =
    ((why : Refusal) × IsVerdictDue accounts mechanism account first challenge last (refuse why)
    × IsRefusal (due_text (refuse why)) lines next)
    ⊎ ((signature : List ℕ) × (text : List ℕ) × IsVerdictDue accounts mechanism account first challenge last (accept signature)
    × IsAuthentic text signature
    × ((lines ≡ said (accepts text) ∷ []) × (next ≡ waits_code account)))
HasShapeAt accounts at lines next = Unit {0}

-- the lines of an answer after its first, which leads to this place
module _ (d : Demands) (lines : List LogLine) (next middle : Place) (path : IsPath d middle lines next)
    (all : AllByRecursion IsAnswerLine lines) where
  -- an answer that begins with a refusal is that refusal
  refusal_is_whole_answer : (text due : List ℕ) → text ≡ due → middle ≡ ending → IsAtRest next
      → IsRefusal due (said (refuses text) ∷ lines) next
  refusal_is_whole_answer text due same at rests =
      let rest = ending_path_is_end d lines next (subst (λ (p : Place). IsPath d p lines next) at path) all rests in (
        ap (λ (t : List ℕ). said (refuses t) ∷ lines) same ∙ ap (λ (l : List LogLine). said (refuses due) ∷ l) rest.0,
        rest.1,
      )

  -- an answer whose first line leads to the client's turn is that line
  one_line_is_whole_answer : (line due : LogLine) (at : Place) → line ≡ due → middle ≡ at → is_client_turn at ≡ true
      → (line ∷ lines ≡ due ∷ []) × (next ≡ at)
  one_line_is_whole_answer line due at same is turn =
      let rest = client_turn_path_is_empty d at lines next turn (subst (λ (p : Place). IsPath d p lines next) is path) all in (
        ap (λ (l : LogLine). l ∷ lines) same ∙ ap (λ (l : List LogLine). due ∷ l) rest.0,
        rest.1,
      )

-- a session that has ended does not wait for codes
ended_session_awaits_no_code : (next : Place) → next ≡ between → (account : List ℕ) → next ≡ waits_code account → ⊥
ended_session_awaits_no_code next at account is = let wrong : between ≡ waits_code account = sym at ∙ is in cc wrong

-- the answers of a server of these accounts
module _ (accounts : Accounts) where
  -- each answer that is due at a place has the shape of the place
  pub answer_has_shape : (at : Place) (lines : List LogLine) (next : Place) → IsPath (demands accounts) at lines next
      → AllByRecursion IsAnswerLine lines → IsAtRest next → HasShapeAt accounts at lines next
  answer_has_shape leaving [] next path all rests = absurd (subst IsAtRest path rests).1
  answer_has_shape leaving (said (refuses text) ∷ lines) next (middle, goes, path) all rests =
      refusal_is_whole_answer (demands accounts) lines next middle path all.1 text [] goes.0 goes.1 rests
  answer_has_shape leaving (line ∷ lines) next (middle, goes, path) all rests = absurd goes
  answer_has_shape ending lines next path all rests = ending_path_is_end (demands accounts) lines next path all rests
  answer_has_shape (asks_bare m) [] next path all rests = absurd (subst IsAtRest path rests).1
  answer_has_shape (asks_bare m) (said (refuses text) ∷ lines) next (middle, goes, path) all rests =
      inl (goes.0.0, refusal_is_whole_answer (demands accounts) lines next middle path all.1 text [] goes.0.1 goes.1 rests)
  answer_has_shape (asks_bare m) (said (cont text) ∷ lines) next (middle, goes, path) all rests =
      inr (
        goes.0.0,
        one_line_is_whole_answer (demands accounts) lines next middle path all.1 (said (cont text)) (said (cont [])) (waits_first m)
            (ap (λ (t : List ℕ). said (cont t)) goes.0.1) goes.1 refl,
      )
  answer_has_shape (asks_bare m) (line ∷ lines) next (middle, goes, path) all rests = absurd goes
  answer_has_shape (got_first m first) [] next path all rests = absurd (subst IsAtRest path rests).1
  answer_has_shape (got_first m first) (said (refuses text) ∷ lines) next (middle, goes, path) all rests =
      inl (goes.0.0, refusal_is_whole_answer (demands accounts) lines next middle path all.1 text [] goes.0.1 goes.1 rests)
  answer_has_shape (got_first m first) (said (cont text) ∷ lines) next (middle, goes, path) all rests =
      inr (
        goes.0,
        text,
        goes.1,
        one_line_is_whole_answer (demands accounts) lines next middle path all.1 (said (cont text)) (said (cont text))
            (waits_final m goes.0 first text) refl goes.2 refl,
      )
  answer_has_shape (got_first m first) (line ∷ lines) next (middle, goes, path) all rests = absurd goes
  answer_has_shape (got_final m account first challenge last) [] next path all rests = absurd (subst IsAtRest path rests).1
  answer_has_shape (got_final m account first challenge last) (said (refuses text) ∷ lines) next (middle, goes, path) all rests =
      inl (
        goes.0.0,
        goes.0.1,
        refusal_is_whole_answer (demands accounts) lines next middle path all.1 text (due_text (refuse goes.0.0)) goes.0.2 goes.1 rests,
      )
  answer_has_shape (got_final m account first challenge last) (said (accepts text) ∷ lines) next (middle, goes, path) all rests =
      inr (
        goes.0.0,
        text,
        goes.0.1,
        goes.0.2,
        one_line_is_whole_answer (demands accounts) lines next middle path all.1 (said (accepts text)) (said (accepts text))
            (waits_code account) refl goes.1 refl,
      )
  answer_has_shape (got_final m account first challenge last) (line ∷ lines) next (middle, goes, path) all rests = absurd goes
  answer_has_shape at lines next path all rests = tt

  -- each answer that is due has an acceptance, or its session does not wait for codes
  pub acceptance_or_no_code : (at : Place) (lines : List LogLine) (next : Place) → IsAnswerDue at → HasShapeAt accounts at lines next
      → (has_acceptance lines ≡ true) ⊎ ((account : List ℕ) → next ≡ waits_code account → ⊥)
  unfolding has_acceptance
  acceptance_or_no_code leaving lines next due a = inr (ended_session_awaits_no_code next a.1)
  acceptance_or_no_code ending lines next due a = inr (ended_session_awaits_no_code next a.1)
  acceptance_or_no_code (asks_bare m) lines next due (inl a) = inr (ended_session_awaits_no_code next a.1.1)
  acceptance_or_no_code (asks_bare m) lines next due (inr (named, (is_lines, at))) =
      inr (λ account is. let wrong : waits_first m ≡ waits_code account = sym at ∙ is in cc wrong)
  acceptance_or_no_code (got_first m first) lines next due (inl a) = inr (ended_session_awaits_no_code next a.1.1)
  acceptance_or_no_code (got_first m first) lines next due (inr (name, text, opens, (is_lines, at))) =
      inr (λ account is. let wrong : waits_final m name first text ≡ waits_code account = sym at ∙ is in cc wrong)
  acceptance_or_no_code (got_final m name first challenge last) lines next due (inl (why, a, (is_lines, at))) =
      inr (ended_session_awaits_no_code next at)
  acceptance_or_no_code (got_final m name first challenge last) lines next due (inr (signature, text, a, authentic, (is_lines, at))) =
      inl (rw is_lines refl)
  acceptance_or_no_code at lines next due a = absurd due
