-- Parts of a session within others: what an outer part has besides an inner one.
use Rattle.std.proofs.Common.{◌≡◌, ℕ, List, [], ◌∷◌, ◌++◌, refl}
use Rattle.std.specs.declared.option.Option.{Option}
use Rattle.otp_core.specs.Attempt.{CodeTexts}
use Rattle.otp_core.specs.declared.token.reply.Reply.{Reply}
use Rattle.account_book.specs.AccountAttempt.{AccountAttempt, account_attempt_of}
use Rattle.log_grammar.specs.Lines.{LogLine, said, heard, bad, mechs, cont, accepts, replies, auth, auth_with, resp, abort, code_line}
use Rattle.log_grammar.specs.Demands.{Demands}
use Rattle.log_grammar.specs.Sessions.{Part, parting, quitting, after_ok, after_final, after_challenge, after_first, after_empty, after_auth}
use Rattle.log_grammar.specs.Sessions.{after_mechs, session_part, aborts, sends_bad, quits_codes, replied, granted, quits_final, sends_final}
use Rattle.log_grammar.specs.Sessions.{challenged, quits_first, sends_first, invited, quits_login, with_first, without_first, session}

-- each inner part stands within an outer one: these lines and replies come before its own, both lead to the same place, and if the inner
-- part meets the demands, so does the outer one
pub record IsWithin {X Y : Type 0} (d : Demands) (inner : X → Part) (outer : Y → Part) (wrap : X → Y) : Type 0 where
  pub lines_before : List LogLine
  pub told_before : List AccountAttempt
  pub around : (t : X) → ((outer (wrap t)).lines ≡ lines_before ++ (inner t).lines) × ((outer (wrap t)).place ≡ (inner t).place)
      × ((outer (wrap t)).told ≡ told_before ++ (inner t).told) × ((inner t).Meets d → (outer (wrap t)).Meets d)

module _ (d : Demands) where
  -- what stands after `C ABORT` is within the end of a session by its client
  pub aborts_is_within : IsWithin d parting quitting aborts
  aborts_is_within = record { lines_before = heard abort ∷ []; told_before = []; around = λ t. (refl, refl, refl, λ m. m) }

  -- what stands after `C BAD` is within the end of a session by its client
  pub sends_bad_is_within : IsWithin d parting quitting sends_bad
  sends_bad_is_within = record { lines_before = bad ∷ []; told_before = []; around = λ t. (refl, refl, refl, λ m. m) }

  -- the end by the client is within what stands after `S OK`
  pub quits_codes_is_within : (account : List ℕ) → IsWithin d quitting (after_ok account) quits_codes
  quits_codes_is_within account = record { lines_before = []; told_before = []; around = λ t. (refl, refl, refl, λ m. m) }

  -- what stands after a reply is within what stands after `S OK` or another reply
  pub replied_is_within : (account : List ℕ) (sent : CodeTexts) (moment : ℕ) (reply : Option Reply)
      → IsWithin d (after_ok account) (after_ok account) (replied sent moment reply)
  replied_is_within account sent moment reply =
      record {
        lines_before = heard (code_line sent) ∷ said (replies moment reply) ∷ [];
        told_before = account_attempt_of account moment sent reply ∷ [];
        around = λ t. (refl, refl, refl, λ m. m);
      }

  -- what stands after `S OK` is within what stands after the client-final message
  pub granted_is_within : (m account first challenge last text : List ℕ) → d.granted m account first challenge last text
      → IsWithin d (after_ok account) (after_final m account first challenge last) (granted text)
  granted_is_within m account first challenge last text is =
      record { lines_before = said (accepts text) ∷ []; told_before = []; around = λ t. (refl, refl, refl, λ more. (is, more)) }

  -- the end by the client is within what stands after the challenge
  pub quits_final_is_within : (m account first challenge : List ℕ)
      → IsWithin d quitting (after_challenge m account first challenge) quits_final
  quits_final_is_within m account first challenge = record { lines_before = []; told_before = []; around = λ t. (refl, refl, refl, λ m. m) }

  -- what stands after the client-final message is within what stands after the challenge
  pub sends_final_is_within : (m account first challenge last : List ℕ)
      → IsWithin d (after_final m account first challenge last) (after_challenge m account first challenge) (sends_final last)
  sends_final_is_within m account first challenge last =
      record { lines_before = heard (resp last) ∷ []; told_before = []; around = λ t. (refl, refl, refl, λ m. m) }

  -- what stands after the challenge is within what stands after the client-first message
  pub challenged_is_within : (m first account text : List ℕ) → d.challenged m account first text
      → IsWithin d (after_challenge m account first text) (after_first m first) (challenged account text)
  challenged_is_within m first account text is =
      record { lines_before = said (cont text) ∷ []; told_before = []; around = λ t. (refl, refl, refl, λ more. (is, more)) }

  -- the end by the client is within what stands after the empty challenge
  pub quits_first_is_within : (m : List ℕ) → IsWithin d quitting (after_empty m) quits_first
  quits_first_is_within m = record { lines_before = []; told_before = []; around = λ t. (refl, refl, refl, λ m. m) }

  -- what stands after the client-first message is within what stands after the empty challenge
  pub sends_first_is_within : (m first : List ℕ) → IsWithin d (after_first m first) (after_empty m) (sends_first first)
  sends_first_is_within m first = record { lines_before = heard (resp first) ∷ []; told_before = []; around = λ t. (refl, refl, refl, λ m. m) }

  -- what stands after the empty challenge is within what stands after `C AUTH` without a message
  pub invited_is_within : (m text : List ℕ) → d.invited m text → IsWithin d (after_empty m) (after_auth m) (invited text)
  invited_is_within m text is = record { lines_before = said (cont text) ∷ []; told_before = []; around = λ t. (refl, refl, refl, λ more. (is, more)) }

  -- the end by the client is within what stands after `S MECHS`
  pub quits_login_is_within : IsWithin d quitting after_mechs quits_login
  quits_login_is_within = record { lines_before = []; told_before = []; around = λ t. (refl, refl, refl, λ m. m) }

  -- what stands after `C AUTH` with a client-first message is within what stands after `S MECHS`
  pub with_first_is_within : (m first : List ℕ) → IsWithin d (after_first m first) after_mechs (with_first m first)
  with_first_is_within m first = record { lines_before = heard (auth_with m first) ∷ []; told_before = []; around = λ t. (refl, refl, refl, λ m. m) }

  -- what stands after `C AUTH` without a message is within what stands after `S MECHS`
  pub without_first_is_within : (m : List ℕ) → IsWithin d (after_auth m) after_mechs (without_first m)
  without_first_is_within m = record { lines_before = heard (auth m) ∷ []; told_before = []; around = λ t. (refl, refl, refl, λ m. m) }

  -- what stands after `S MECHS` is within a session
  pub session_is_within : (names : List ℕ) → d.mechs names → IsWithin d after_mechs session_part (session names)
  session_is_within names is = record { lines_before = said (mechs names) ∷ []; told_before = []; around = λ t. (refl, refl, refl, λ more. (is, more)) }
