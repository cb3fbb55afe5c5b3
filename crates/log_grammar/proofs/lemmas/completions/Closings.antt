-- From each place of a session there are lines that close it and record no reply, unless a code waits for its reply.
use Rattle.std.proofs.Common.{◌≡◌, ◌⊎◌, inl, inr, ℕ, List, [], ◌∷◌, refl}
use Rattle.otp_core.specs.Attempt.{CodeTexts}
use Rattle.scram_ends.specs.Verdict.{Due, accept, refuse, due_text}
use Rattle.log_grammar.specs.Lines.{LogLine, said, gone, ended, cont, accepts, refuses, IsLogLineWritable}
use Rattle.log_grammar.specs.Places.{Place, before_all, between, offered, asks_bare, waits_first, got_first, waits_final, got_final, waits_code}
use Rattle.log_grammar.specs.Places.{got_code, leaving, ending, halted}
use Rattle.log_grammar.specs.Demands.{Accounts, IsVerdictDue, demands}
use Rattle.log_grammar.specs.laws.FitAccounts.{AllCanBeChallenged}
use Rattle.log_grammar.specs.laws.Completions.{EndSession}
use Rattle.log_grammar.specs.state_machine.Steps.{IsTransition, told_at}
use Rattle.log_grammar.specs.Numbered.{Numbered, MayBeNumbered, MayFollow}
use Rattle.log_grammar.specs.NumberedLines.{IsNoFirstLine}
use Rattle.log_grammar.proofs.lemmas.completions.Verdicts.{due_refusal_is_writable, due_acceptance_is_writable, some_verdict}
use Rattle.log_grammar.proofs.lemmas.lines.Written.{gone_is_writable, end_is_writable, cont_is_writable, bare_refusal_is_writable}
use Rattle.log_grammar.proofs.lemmas.lines.Written.{bare_cont_is_writable}
use Rattle.log_grammar.proofs.lemmas.demands.StillChallenged.{ChallengeMeetsDemand}
use Rattle.log_grammar.proofs.lemmas.demands.Challenges.{decided_offered, decided_first_message, some_challenge}
use Rattle.log_grammar.proofs.lemmas.lines.TextBytes.{utf8_is_message}

-- a line that may be written at any time, and that any line may follow
pub record IsPlain (line : LogLine) : Type 0 where
  pub writable : IsLogLineWritable line
  pub room : (limit : ℕ) (before : List (Numbered LogLine)) (n : ℕ) → MayBeNumbered limit before n line
  pub follow : (n m : ℕ) (next : LogLine) → MayFollow n line m next
  pub has_number : IsNoFirstLine line

-- these lines lead from a place to the end of the session, and record no reply
abbrev pub Closes : Accounts → Place → List LogLine → Type 0
Closes accounts place [] = place ≡ between
Closes accounts place (line ∷ more) =
    IsPlain line × (told_at place line ≡ []) × (next : Place) × IsTransition (demands accounts) place line next × Closes accounts next more

-- `E` can be written, there is room for it after any lines, and any line may follow it
end_is_plain : IsPlain ended
end_is_plain = record { writable = end_is_writable; room = λ limit before n. tt; follow = λ n m next. tt; has_number = tt }

-- `C GONE` can be written, there is room for it after any lines, and any line may follow it
gone_is_plain : IsPlain gone
gone_is_plain = record { writable = gone_is_writable; room = λ limit before n. tt; follow = λ n m next. tt; has_number = tt }

module _ (message : List ℕ) where
  -- an `S NO` that can be written has room after any lines, and any line may follow it
  refusal_is_plain : IsLogLineWritable (said (refuses message)) → IsPlain (said (refuses message))
  refusal_is_plain writable = record { writable = writable; room = λ limit before n. tt; follow = λ n m next. tt; has_number = tt }

  -- an `S CONT` that can be written has room after any lines, and any line may follow it
  cont_is_plain : IsLogLineWritable (said (cont message)) → IsPlain (said (cont message))
  cont_is_plain writable = record { writable = writable; room = λ limit before n. tt; follow = λ n m next. tt; has_number = tt }

  -- an `S OK` that can be written has room after any lines, and any line may follow it
  ok_is_plain : IsLogLineWritable (said (accepts message)) → IsPlain (said (accepts message))
  ok_is_plain writable = record { writable = writable; room = λ limit before n. tt; follow = λ n m next. tt; has_number = tt }

-- the lines end a session, or there are none
abbrev pub MayEndSession : List LogLine → Type 0
MayEndSession lines = (lines ≡ []) ⊎ EndSession lines

-- there are lines that close a session at this place
abbrev pub IsClosable : Accounts → Place → Type 0
IsClosable accounts place = (lines : List LogLine) × Closes accounts place lines × MayEndSession lines

-- `E` closes a session of which only that is due
ended_closes : (accounts : Accounts) → Closes accounts ending (ended ∷ [])
ended_closes accounts = (end_is_plain, refl, between, refl, refl)

-- `C GONE` and `E` close a session when it is the client's turn
gone_closes : (accounts : Accounts) (place : Place) → told_at place gone ≡ [] → IsTransition (demands accounts) place gone ending
    → Closes accounts place (gone ∷ ended ∷ [])
gone_closes accounts place quiet goes = (gone_is_plain, quiet, ending, goes, ended_closes accounts)

-- a session of which only `E` is due can be closed, by that
ending_is_closable : (accounts : Accounts) → IsClosable accounts ending
ending_is_closable accounts = (ended ∷ [], ended_closes accounts, inr (inl refl))

-- a session can be closed by a refusal and `E` if the server may refuse
refused_place_is_closable : (accounts : Accounts) (place : Place) (text : List ℕ) → IsLogLineWritable (said (refuses text))
    → told_at place (said (refuses text)) ≡ []
    → IsTransition (demands accounts) place (said (refuses text)) ending → IsClosable accounts place
refused_place_is_closable accounts place text writable quiet goes = (
  said (refuses text) ∷ ended ∷ [],
  (refusal_is_plain text writable, quiet, ending, goes, ended_closes accounts),
  inr (inr (inr (inl (text, refl)))),
)

-- a session can be closed when it is the client's turn, since the client may go away
client_turn_is_closable : (accounts : Accounts) (place : Place) → told_at place gone ≡ []
    → IsTransition (demands accounts) place gone ending
    → IsClosable accounts place
client_turn_is_closable accounts place quiet goes =
    (gone ∷ ended ∷ [], gone_closes accounts place quiet goes, inr (inr (inl refl)))

-- a session can be closed by a challenge, after which the client may go away
challenged_place_is_closable : (accounts : Accounts) (place next : Place) (text : List ℕ) → IsLogLineWritable (said (cont text))
    → told_at place (said (cont text)) ≡ [] → IsTransition (demands accounts) place (said (cont text)) next
    → told_at next gone ≡ [] → IsTransition (demands accounts) next gone ending → IsClosable accounts place
challenged_place_is_closable accounts place next text writable quiet goes silent leaves = (
  said (cont text) ∷ gone ∷ ended ∷ [],
  (cont_is_plain text writable, quiet, next, goes, gone_closes accounts next silent leaves),
  inr (inr (inr (inr (inl (text, refl))))),
)

-- a session can be closed after a mechanism was asked for without a message
asks_bare_is_closable : (accounts : Accounts) (m : List ℕ) → IsClosable accounts (asks_bare m)
asks_bare_is_closable accounts m = elim (decided_offered m) [
  | inr none ↦ refused_place_is_closable accounts (asks_bare m) [] bare_refusal_is_writable refl ((none, refl), refl)
  | inl is ↦
      challenged_place_is_closable accounts (asks_bare m) (waits_first m) [] bare_cont_is_writable refl ((is, refl), refl) refl refl
]

-- a session can be closed while a client-first message waits for its answer
got_first_is_closable : (accounts : Accounts) → AllCanBeChallenged accounts → (m first : List ℕ)
    → IsClosable accounts (got_first m first)
got_first_is_closable accounts fit m first = elim (decided_first_message m first) [
  | inr none ↦ refused_place_is_closable accounts (got_first m first) [] bare_refusal_is_writable refl ((none, refl), refl)
  | inl is ↦
      let challenge = some_challenge accounts fit m first is.0 is.1 in
      let text = challenge.0 in
      let next = waits_final m is.0 first text in
      let message = challenge.1.opens.is_challenge in
      let writable = cont_is_writable text (utf8_is_message text message.utf8_text.utf8) message.short in
      challenged_place_is_closable accounts (got_first m first) next text writable refl (is.0, challenge.1, refl) refl refl
]

-- a session can be closed while a client-final message waits for the verdict that is due
got_final_is_closable : (accounts : Accounts) (m account first challenge last : List ℕ) (due : Due)
    → IsVerdictDue accounts m account first challenge last due → IsClosable accounts (got_final m account first challenge last)
got_final_is_closable accounts m account first challenge last (refuse why) is =
    refused_place_is_closable accounts (got_final m account first challenge last) (due_text (refuse why)) (due_refusal_is_writable why) refl
    ((why, is, refl), refl)
got_final_is_closable accounts m account first challenge last (accept signature) is =
    let a = due_acceptance_is_writable accounts m account first challenge last signature is in
    let leaves = gone_closes accounts (waits_code account) refl refl in (
      said (accepts a.text) ∷ gone ∷ ended ∷ [],
      (ok_is_plain a.text a.line, refl, waits_code account, ((signature, is, a.authentic), refl), leaves),
      inr (inr (inr (inr (inr (a.text, refl))))),
    )

-- the session at this place can be closed by some lines, or it has no line yet, waits for the reply to a code, or is halted
abbrev pub Exit : Accounts → Place → Type 0
Exit accounts place =
    IsClosable accounts place
    ⊎ ((place ≡ before_all) ⊎ (((account : List ℕ) × (sent : CodeTexts) × (place ≡ got_code account sent)) ⊎ (place ≡ halted)))

-- if a challenge can be written for each name, and the place's own challenge meets its demand, each place has an `Exit`: lines that close
-- its session, unless it is before all lines, a code waits for its reply, or it is halted
pub place_has_exit : (accounts : Accounts) → AllCanBeChallenged accounts → (place : Place)
    → ChallengeMeetsDemand (demands accounts) place → Exit accounts place
place_has_exit accounts fit before_all opened = inr (inl refl)
place_has_exit accounts fit between opened = inl ([], refl, inl refl)
place_has_exit accounts fit offered opened = inl (client_turn_is_closable accounts offered refl refl)
place_has_exit accounts fit (asks_bare m) opened = inl (asks_bare_is_closable accounts m)
place_has_exit accounts fit (waits_first m) opened = inl (client_turn_is_closable accounts (waits_first m) refl refl)
place_has_exit accounts fit (got_first m first) opened = inl (got_first_is_closable accounts fit m first)
place_has_exit accounts fit (waits_final m account first challenge) opened = inl
    (client_turn_is_closable accounts (waits_final m account first challenge) refl refl)
place_has_exit accounts fit (got_final m account first challenge last) opened =
    let due = some_verdict accounts m account first challenge last opened in
    inl (got_final_is_closable accounts m account first challenge last due.0 due.1)
place_has_exit accounts fit (waits_code account) opened = inl (client_turn_is_closable accounts (waits_code account) refl refl)
place_has_exit accounts fit (got_code account sent) opened = inr (inr (inl (account, sent, refl)))
place_has_exit accounts fit leaving opened =
    inl (refused_place_is_closable accounts leaving [] bare_refusal_is_writable refl (refl, refl))
place_has_exit accounts fit ending opened = inl (ending_is_closable accounts)
place_has_exit accounts fit halted opened = inr (inr (inr refl))
