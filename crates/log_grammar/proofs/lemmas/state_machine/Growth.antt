-- A session continues with one line: if the line may stand at the session's place, there is the same session with this line after it.
use Rattle.std.proofs.Common.{◌≡◌, ◌⊎◌, inl, inr, ℕ, true, false, List, [], ◌∷◌, ◌++◌, refl, sym, ◌∙◌, ap, append_assoc}
use Rattle.otp_core.specs.Attempt.{one_text, two_texts}
use Rattle.account_book.specs.AccountAttempt.{AccountAttempt}
use Rattle.log_grammar.specs.Lines.{LogLine, said, heard, bad, gone, ended, cont, accepts, refuses, replies, halt, auth, auth_with, resp, abort, code}
use Rattle.log_grammar.specs.Lines.{sync}
use Rattle.log_grammar.specs.Places.{Place, between}
use Rattle.log_grammar.specs.Demands.{Demands}
use Rattle.log_grammar.specs.Sessions.{Part, Farewell, parting, Quit, quitting, AfterOk, after_ok, AfterFinal, after_final, AfterChallenge}
use Rattle.log_grammar.specs.Sessions.{after_challenge, AfterFirst, after_first, AfterEmpty, after_empty, AfterAuth, after_auth, AfterMechs}
use Rattle.log_grammar.specs.Sessions.{after_mechs, RecordedSession, session_part, no_farewell, farewell, goes_away, aborts, sends_bad, no_code, quits_codes}
use Rattle.log_grammar.specs.Sessions.{unreplied, replied, halted_at, no_verdict, denied, granted, no_final, quits_final, sends_final, no_answer}
use Rattle.log_grammar.specs.Sessions.{refused, challenged, no_first, quits_first, sends_first, no_invitation, unoffered, invited, no_login}
use Rattle.log_grammar.specs.Sessions.{quits_login, with_first, without_first, session}
use Rattle.log_grammar.specs.state_machine.Steps.{IsTransition, told_at}
use Rattle.log_grammar.proofs.lemmas.state_machine.Within.{IsWithin, aborts_is_within, sends_bad_is_within, quits_codes_is_within, replied_is_within}
use Rattle.log_grammar.proofs.lemmas.state_machine.Within.{granted_is_within, quits_final_is_within, sends_final_is_within, challenged_is_within}
use Rattle.log_grammar.proofs.lemmas.state_machine.Within.{quits_first_is_within, sends_first_is_within, invited_is_within, quits_login_is_within}
use Rattle.log_grammar.proofs.lemmas.state_machine.Within.{with_first_is_within, without_first_is_within, session_is_within}

-- a part of a session continues with one line, which leads to this place and records these replies
pub record Grown {X : Type 0} (d : Demands) (part : X → Part) (old : X) (line : LogLine) (next : Place)
    (more : List AccountAttempt) : Type 0 where
  -- the part with the line
  pub tree : X
  -- its lines are those of the old part, then this one
  pub lines : (part tree).lines ≡ (part old).lines ++ line ∷ []
  -- it leads to this place
  pub at : (part tree).place ≡ next
  -- its recorded replies are those of the old part, then these
  pub told_are : (part tree).told ≡ (part old).told ++ more
  -- it meets the demands
  pub good : (part tree).Meets d

-- a part of a session has ended, or continues with a line that may stand at its place
abbrev pub GoesOn : {X : Type 0} → Demands → (X → Part) → X → LogLine → Place → Type 0
GoesOn d part old line next = ((part old).place ≡ between) ⊎ Grown d part old line next (told_at (part old).place line)

-- if a part continues with a line, so does the part around it
outer_grows : {X Y : Type 0} (d : Demands) (inner : X → Part) (outer : Y → Part) (wrap : X → Y) → IsWithin d inner outer wrap
    → (old : X) (line : LogLine) (next : Place) (more : List AccountAttempt)
    → Grown d inner old line next more → Grown d outer (wrap old) line next more
outer_grows d inner outer wrap w old line next more g = record {
  tree = wrap g.tree;
  lines = (w.around g.tree).0 ∙ ap (λ (l : List LogLine). w.lines_before ++ l) g.lines
      ∙ sym (append_assoc w.lines_before (inner old).lines (line ∷ []))
      ∙ ap (λ (l : List LogLine). l ++ line ∷ []) (sym ((w.around old).0));
  at = (w.around g.tree).1 ∙ g.at;
  told_are = (w.around g.tree).2 ∙ ap (λ (l : List AccountAttempt). w.told_before ++ l) g.told_are
      ∙ sym (append_assoc w.told_before (inner old).told more)
      ∙ ap (λ (l : List AccountAttempt). l ++ more) (sym ((w.around old).2));
  good = (w.around g.tree).3 g.good;
}

-- if a part has ended, or continues with a line, so has, or does, the part around it
outer_goes_on : {X Y : Type 0} (d : Demands) {inner : X → Part} {outer : Y → Part} {wrap : X → Y} → IsWithin d inner outer wrap
    → (old : X) (line : LogLine) (next : Place) → GoesOn d inner old line next
    → ((outer (wrap old)).place ≡ between) ⊎ Grown d outer (wrap old) line next (told_at (inner old).place line)
outer_goes_on d {inner} {outer} {wrap} w old line next (inl closed) = inl ((w.around old).1 ∙ closed)
outer_goes_on d {inner} {outer} {wrap} w old line next (inr g) =
    inr (outer_grows d inner outer wrap w old line next (told_at (inner old).place line) g)

module _ (d : Demands) where
  -- what follows the client's line that ends a session goes on with a line that may stand at its place, or has ended
  farewell_goes_on : (t : Farewell) (line : LogLine) (next : Place) → (parting t).Meets d → IsTransition d (parting t).place line next
      → GoesOn d parting t line next
  farewell_goes_on no_farewell (said (refuses text)) next meets h =
      inr (record { tree = farewell text false; lines = refl; at = sym h.1; told_are = refl; good = h.0 })
  farewell_goes_on no_farewell line next meets h = absurd h
  farewell_goes_on (farewell text true) line next meets h = inl refl
  farewell_goes_on (farewell text false) ended next meets h =
      inr (record { tree = farewell text true; lines = refl; at = sym h; told_are = refl; good = meets })
  farewell_goes_on (farewell text false) line next meets h = absurd h

  -- the end of a session by its client goes on with a line that may stand at its place, or has ended
  quit_goes_on : (t : Quit) (line : LogLine) (next : Place) → (quitting t).Meets d → IsTransition d (quitting t).place line next
      → GoesOn d quitting t line next
  quit_goes_on (goes_away true) line next meets h = inl refl
  quit_goes_on (goes_away false) ended next meets h = inr (record {
    tree = goes_away true;
    lines = refl;
    at = sym h;
    told_are = refl;
    good = meets;
  })
  quit_goes_on (goes_away false) line next meets h = absurd h
  quit_goes_on (aborts f) line next meets h = outer_goes_on d (aborts_is_within d) f line next (farewell_goes_on f line next meets h)
  quit_goes_on (sends_bad f) line next meets h = outer_goes_on d (sends_bad_is_within d) f line next (farewell_goes_on f line next meets h)

  -- the codes of a session go on with a line that may stand at their place, or have ended
  after_ok_goes_on : (account : List ℕ) (t : AfterOk) (line : LogLine) (next : Place) → (after_ok account t).Meets d
      → IsTransition d (after_ok account t).place line next → GoesOn d (after_ok account) t line next
  after_ok_goes_on account no_code (heard (code text)) next meets h =
      inr (record { tree = unreplied (one_text text); lines = refl; at = sym h; told_are = refl; good = tt })
  after_ok_goes_on account no_code (heard (sync first second)) next meets h =
      inr (record { tree = unreplied (two_texts first second); lines = refl; at = sym h; told_are = refl; good = tt })
  after_ok_goes_on account no_code (heard abort) next meets h =
      inr (record { tree = quits_codes (aborts no_farewell); lines = refl; at = sym h; told_are = refl; good = tt })
  after_ok_goes_on account no_code bad next meets h =
      inr (record { tree = quits_codes (sends_bad no_farewell); lines = refl; at = sym h; told_are = refl; good = tt })
  after_ok_goes_on account no_code gone next meets h =
      inr (record { tree = quits_codes (goes_away false); lines = refl; at = sym h; told_are = refl; good = tt })
  after_ok_goes_on account no_code line next meets h = absurd h
  after_ok_goes_on account (quits_codes q) line next meets h =
      outer_goes_on d (quits_codes_is_within d account) q line next (quit_goes_on q line next meets h)
  after_ok_goes_on account (unreplied sent) (said (replies moment reply)) next meets h =
      inr (record { tree = replied sent moment reply no_code; lines = refl; at = sym h; told_are = refl; good = tt })
  after_ok_goes_on account (unreplied sent) (said halt) next meets h =
      inr (record { tree = halted_at sent; lines = refl; at = sym h; told_are = refl; good = tt })
  after_ok_goes_on account (unreplied sent) line next meets h = absurd h
  after_ok_goes_on account (replied sent moment reply more) line next meets h =
      outer_goes_on d (replied_is_within d account sent moment reply) more line next (after_ok_goes_on account more line next meets h)
  after_ok_goes_on account (halted_at sent) line next meets h = absurd h

  -- what follows the client-final message goes on with a line that may stand at its place, or has ended
  after_final_goes_on : (m account first challenge last : List ℕ) (t : AfterFinal) (line : LogLine) (next : Place)
      → (after_final m account first challenge last t).Meets d
      → IsTransition d (after_final m account first challenge last t).place line next
      → GoesOn d (after_final m account first challenge last) t line next
  after_final_goes_on m account first challenge last no_verdict (said (refuses text)) next meets h =
      inr (record { tree = denied text false; lines = refl; at = sym h.1; told_are = refl; good = h.0 })
  after_final_goes_on m account first challenge last no_verdict (said (accepts text)) next meets h =
      inr (record { tree = granted text no_code; lines = refl; at = sym h.1; told_are = refl; good = (h.0, tt) })
  after_final_goes_on m account first challenge last no_verdict line next meets h = absurd h
  after_final_goes_on m account first challenge last (denied text true) line next meets h = inl refl
  after_final_goes_on m account first challenge last (denied text false) ended next meets h =
      inr (record { tree = denied text true; lines = refl; at = sym h; told_are = refl; good = meets })
  after_final_goes_on m account first challenge last (denied text false) line next meets h = absurd h
  after_final_goes_on m account first challenge last (granted text c) line next meets h =
      outer_goes_on d (granted_is_within d m account first challenge last text meets.0) c line next
      (after_ok_goes_on account c line next meets.1 h)

  -- what follows the challenge goes on with a line that may stand at its place, or has ended
  after_challenge_goes_on : (m account first challenge : List ℕ) (t : AfterChallenge) (line : LogLine) (next : Place)
      → (after_challenge m account first challenge t).Meets d → IsTransition d (after_challenge m account first challenge t).place line next
      → GoesOn d (after_challenge m account first challenge) t line next
  after_challenge_goes_on m account first challenge no_final (heard (resp last)) next meets h =
      inr (record { tree = sends_final last no_verdict; lines = refl; at = sym h; told_are = refl; good = tt })
  after_challenge_goes_on m account first challenge no_final (heard abort) next meets h =
      inr (record { tree = quits_final (aborts no_farewell); lines = refl; at = sym h; told_are = refl; good = tt })
  after_challenge_goes_on m account first challenge no_final bad next meets h =
      inr (record { tree = quits_final (sends_bad no_farewell); lines = refl; at = sym h; told_are = refl; good = tt })
  after_challenge_goes_on m account first challenge no_final gone next meets h =
      inr (record { tree = quits_final (goes_away false); lines = refl; at = sym h; told_are = refl; good = tt })
  after_challenge_goes_on m account first challenge no_final line next meets h = absurd h
  after_challenge_goes_on m account first challenge (quits_final q) line next meets h =
      outer_goes_on d (quits_final_is_within d m account first challenge) q line next (quit_goes_on q line next meets h)
  after_challenge_goes_on m account first challenge (sends_final last j) line next meets h =
      outer_goes_on d (sends_final_is_within d m account first challenge last) j line next
      (after_final_goes_on m account first challenge last j line next meets h)

  -- what follows a client-first message goes on with a line that may stand at its place, or has ended
  after_first_goes_on : (m first : List ℕ) (t : AfterFirst) (line : LogLine) (next : Place) → (after_first m first t).Meets d
      → IsTransition d (after_first m first t).place line next → GoesOn d (after_first m first) t line next
  after_first_goes_on m first no_answer (said (refuses text)) next meets h =
      inr (record { tree = refused text false; lines = refl; at = sym h.1; told_are = refl; good = h.0 })
  after_first_goes_on m first no_answer (said (cont text)) next meets h =
      inr (record { tree = challenged h.0 text no_final; lines = refl; at = sym h.2; told_are = refl; good = (h.1, tt) })
  after_first_goes_on m first no_answer line next meets h = absurd h
  after_first_goes_on m first (refused text true) line next meets h = inl refl
  after_first_goes_on m first (refused text false) ended next meets h =
      inr (record { tree = refused text true; lines = refl; at = sym h; told_are = refl; good = meets })
  after_first_goes_on m first (refused text false) line next meets h = absurd h
  after_first_goes_on m first (challenged account text p) line next meets h =
      outer_goes_on d (challenged_is_within d m first account text meets.0) p line next
      (after_challenge_goes_on m account first text p line next meets.1 h)

  -- what follows the empty challenge goes on with a line that may stand at its place, or has ended
  after_empty_goes_on : (m : List ℕ) (t : AfterEmpty) (line : LogLine) (next : Place) → (after_empty m t).Meets d
      → IsTransition d (after_empty m t).place line next → GoesOn d (after_empty m) t line next
  after_empty_goes_on m no_first (heard (resp first)) next meets h =
      inr (record { tree = sends_first first no_answer; lines = refl; at = sym h; told_are = refl; good = tt })
  after_empty_goes_on m no_first (heard abort) next meets h =
      inr (record { tree = quits_first (aborts no_farewell); lines = refl; at = sym h; told_are = refl; good = tt })
  after_empty_goes_on m no_first bad next meets h =
      inr (record { tree = quits_first (sends_bad no_farewell); lines = refl; at = sym h; told_are = refl; good = tt })
  after_empty_goes_on m no_first gone next meets h =
      inr (record { tree = quits_first (goes_away false); lines = refl; at = sym h; told_are = refl; good = tt })
  after_empty_goes_on m no_first line next meets h = absurd h
  after_empty_goes_on m (quits_first q) line next meets h =
      outer_goes_on d (quits_first_is_within d m) q line next (quit_goes_on q line next meets h)
  after_empty_goes_on m (sends_first first a) line next meets h =
      outer_goes_on d (sends_first_is_within d m first) a line next (after_first_goes_on m first a line next meets h)

  -- what follows `C AUTH` without a message goes on with a line that may stand at its place, or has ended
  after_auth_goes_on : (m : List ℕ) (t : AfterAuth) (line : LogLine) (next : Place) → (after_auth m t).Meets d
      → IsTransition d (after_auth m t).place line next → GoesOn d (after_auth m) t line next
  after_auth_goes_on m no_invitation (said (refuses text)) next meets h =
      inr (record { tree = unoffered text false; lines = refl; at = sym h.1; told_are = refl; good = h.0 })
  after_auth_goes_on m no_invitation (said (cont text)) next meets h =
      inr (record { tree = invited text no_first; lines = refl; at = sym h.1; told_are = refl; good = (h.0, tt) })
  after_auth_goes_on m no_invitation line next meets h = absurd h
  after_auth_goes_on m (unoffered text true) line next meets h = inl refl
  after_auth_goes_on m (unoffered text false) ended next meets h =
      inr (record { tree = unoffered text true; lines = refl; at = sym h; told_are = refl; good = meets })
  after_auth_goes_on m (unoffered text false) line next meets h = absurd h
  after_auth_goes_on m (invited text f) line next meets h =
      outer_goes_on d (invited_is_within d m text meets.0) f line next (after_empty_goes_on m f line next meets.1 h)

  -- what follows `S MECHS` goes on with a line that may stand at its place, or has ended
  after_mechs_goes_on : (t : AfterMechs) (line : LogLine) (next : Place) → (after_mechs t).Meets d
      → IsTransition d (after_mechs t).place line next → GoesOn d after_mechs t line next
  after_mechs_goes_on no_login (heard (auth m)) next meets h =
      inr (record { tree = without_first m no_invitation; lines = refl; at = sym h; told_are = refl; good = tt })
  after_mechs_goes_on no_login (heard (auth_with m first)) next meets h =
      inr (record { tree = with_first m first no_answer; lines = refl; at = sym h; told_are = refl; good = tt })
  after_mechs_goes_on no_login (heard abort) next meets h =
      inr (record { tree = quits_login (aborts no_farewell); lines = refl; at = sym h; told_are = refl; good = tt })
  after_mechs_goes_on no_login bad next meets h =
      inr (record { tree = quits_login (sends_bad no_farewell); lines = refl; at = sym h; told_are = refl; good = tt })
  after_mechs_goes_on no_login gone next meets h =
      inr (record { tree = quits_login (goes_away false); lines = refl; at = sym h; told_are = refl; good = tt })
  after_mechs_goes_on no_login line next meets h = absurd h
  after_mechs_goes_on (quits_login q) line next meets h =
      outer_goes_on d (quits_login_is_within d) q line next (quit_goes_on q line next meets h)
  after_mechs_goes_on (with_first m first a) line next meets h =
      outer_goes_on d (with_first_is_within d m first) a line next (after_first_goes_on m first a line next meets h)
  after_mechs_goes_on (without_first m i) line next meets h =
      outer_goes_on d (without_first_is_within d m) i line next (after_auth_goes_on m i line next meets h)

  -- a session that meets the demands is closed, or continues with any line that may stand at its place and still meets them
  pub session_goes_on : (t : RecordedSession) (line : LogLine) (next : Place) → (session_part t).Meets d
      → IsTransition d (session_part t).place line next → GoesOn d session_part t line next
  session_goes_on (session names l) line next meets h =
      outer_goes_on d (session_is_within d names meets.0) l line next (after_mechs_goes_on l line next meets.1 h)
