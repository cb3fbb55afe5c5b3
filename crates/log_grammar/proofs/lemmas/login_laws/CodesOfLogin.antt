-- The codes of a session are for the account that its client-first message names.
use Rattle.std.proofs.Common.{◌≡◌, inl, inr, ℕ, Bool, List, [], ◌∷◌, ◌++◌, refl, sym, ◌∙◌, ap, subst, append_assoc, append-nil}
use Rattle.std.specs.Prelude.{flat_map}
use Rattle.std.specs.List.{AllByRecursion}
use Rattle.otp_core.specs.Attempt.{CodeTexts}
use Rattle.account_book.specs.AccountAttempt.{AccountAttempt}
use Rattle.log_grammar.specs.Lines.{LogLine, header_one, said, heard, mechs, cont, auth, auth_with, resp}
use Rattle.log_grammar.specs.Places.{Place, MayEnd, offered, asks_bare, waits_first, got_first, got_code}
use Rattle.log_grammar.specs.Demands.{Demands, Accounts, demands}
use Rattle.log_grammar.specs.Sessions.{Part, rests, refusal, session_part, Quit, quitting, AfterFirst, after_first, RecordedSession, session_lines}
use Rattle.log_grammar.specs.Sessions.{SessionMeets, no_answer, refused, challenged, no_first, quits_first, sends_first, no_invitation, unoffered}
use Rattle.log_grammar.specs.Sessions.{invited, no_login, quits_login, with_first, without_first, session}
use Rattle.log_grammar.specs.Begins.{place_after}
use Rattle.log_grammar.specs.laws.BySessions.{HasFirst, IsLoginOf, EachCodeIsOfItsLogin, EndsInLoginOf, EachReplyDueFollowsItsLogin}
use Rattle.log_grammar.proofs.lemmas.session_laws.LaterLines.{CodeIsOf, HoldsFromTheLastOf, HoldsOf, quit_holds, refusal_holds, after_challenge_holds}
use Rattle.log_grammar.proofs.lemmas.demands.Challenges.{challenged_first_is_of_name}

-- the account of each recorded reply, and of a code that waits for its reply at the place, is one of these
abbrev AreCodesOf : (IsAccount : List ℕ → Type 0) → List LogLine → Place → List AccountAttempt → Type 0
AreCodesOf IsAccount lines place told = AllByRecursion (λ t. IsAccount t.account) told
    × ((account : List ℕ) (sent : CodeTexts) → place ≡ got_code account sent → IsAccount account)

-- if the codes of a session are of these accounts, `AreCodesOf` holds from the session's last line on
codes_are_of : (IsAccount : List ℕ → Type 0) → HoldsFromTheLastOf IsAccount (AreCodesOf IsAccount)
codes_are_of IsAccount = record {
  no_line = λ place unfinished is. (tt, λ account sent at. subst (CodeIsOf IsAccount) at is);
  last_end = (tt, λ account sent at. absurd (cc at));
  last_halt = (tt, λ account sent at. absurd (cc at));
  inner_line = λ line inner lines place told codes. codes;
  reply = λ account is sent moment reply lines place told codes. ((is, codes.0), codes.1);
}

-- the codes of a part of this session are of the login
abbrev AreCodesOfLogin : RecordedSession → Part → Type 0
AreCodesOfLogin s part = HoldsOf (AreCodesOf (IsLoginOf s)) part

-- if there is no line yet, and a code that waits is of the login, the codes are of it
place_codes_are_of_login : (s : RecordedSession) (place : Place) → (MayEnd place → ⊥) → CodeIsOf (IsLoginOf s) place
    → AreCodesOfLogin s (rests place)
place_codes_are_of_login s = (codes_are_of (IsLoginOf s)).no_line

-- the codes in the end of a session by its client, of which there are none, are of the login
quit_codes_are_of_login : (s : RecordedSession) (q : Quit) → AreCodesOfLogin s (quitting q)
quit_codes_are_of_login s = quit_holds (IsLoginOf s) (AreCodesOf (IsLoginOf s)) (codes_are_of (IsLoginOf s))

-- the codes in a refusal, of which there are none, are of the login
refusal_codes_are_of_login : (s : RecordedSession) (IsDemanded : Demands → Type 0) (text : List ℕ) (closed : Bool)
    → AreCodesOfLogin s (refusal IsDemanded text closed)
refusal_codes_are_of_login s = refusal_holds (IsLoginOf s) (AreCodesOf (IsLoginOf s)) (codes_are_of (IsLoginOf s))

-- if the answer to a client-first message meets its demands, the codes after it are of the login that the message opens
after_first_codes_are_of_login : (accounts : Accounts) (s : RecordedSession) (mechanism first : List ℕ) (a : AfterFirst)
    → HasFirst s mechanism first → (after_first mechanism first a).Meets (demands accounts)
    → AreCodesOfLogin s (after_first mechanism first a)
after_first_codes_are_of_login accounts s mechanism first no_answer has meets =
    place_codes_are_of_login s (got_first mechanism first) (λ none. none) tt
after_first_codes_are_of_login accounts s mechanism first (refused text closed) has meets =
    refusal_codes_are_of_login s (λ d. d.refused mechanism first text) text closed
after_first_codes_are_of_login accounts s mechanism first (challenged account text p) has meets =
    after_challenge_holds (IsLoginOf s) (AreCodesOf (IsLoginOf s)) (codes_are_of (IsLoginOf s)) mechanism account first text
    (mechanism, first, has, challenged_first_is_of_name accounts mechanism first account text meets.0) p

-- the codes of a session that meets its demands are of its login
session_codes_are_of_login : (accounts : Accounts) (s : RecordedSession) → SessionMeets (demands accounts) s
    → AreCodesOfLogin s (session_part s)
session_codes_are_of_login accounts (session names no_login) meets =
    place_codes_are_of_login (session names no_login) offered (λ none. none) tt
session_codes_are_of_login accounts (session names (quits_login q)) meets = quit_codes_are_of_login (session names (quits_login q)) q
session_codes_are_of_login accounts (session names (with_first m first a)) meets =
    after_first_codes_are_of_login accounts (session names (with_first m first a)) m first a
    (names, heard (auth_with m first) ∷ [], (after_first m first a).lines, inl refl, refl) meets.1
session_codes_are_of_login accounts (session names (without_first m no_invitation)) meets =
    place_codes_are_of_login (session names (without_first m no_invitation)) (asks_bare m) (λ none. none) tt
session_codes_are_of_login accounts (session names (without_first m (unoffered text closed))) meets =
    refusal_codes_are_of_login (session names (without_first m (unoffered text closed))) (λ d. d.unoffered m text) text closed
session_codes_are_of_login accounts (session names (without_first m (invited text no_first))) meets =
    place_codes_are_of_login (session names (without_first m (invited text no_first))) (waits_first m) (λ none. none) tt
session_codes_are_of_login accounts (session names (without_first m (invited text (quits_first q)))) meets =
    quit_codes_are_of_login (session names (without_first m (invited text (quits_first q)))) q
session_codes_are_of_login accounts (session names (without_first m (invited text (sends_first first a)))) meets =
    let lines = λ (t : List ℕ). said (mechs names) ∷ heard (auth m) ∷ said (cont t) ∷ heard (resp first) ∷ (after_first m first a).lines in
    let start = heard (auth m) ∷ said (cont []) ∷ heard (resp first) ∷ [] in
    after_first_codes_are_of_login accounts (session names (without_first m (invited text (sends_first first a)))) m first a
    (names, start, (after_first m first a).lines, inr refl, ap lines meets.1.0.1) meets.1.1

-- the law: each code of a session that meets its demands is for the account that its client-first message names
pub each_code_is_of_its_login : EachCodeIsOfItsLogin
each_code_is_of_its_login accounts s meets = (session_codes_are_of_login accounts s meets).0

-- sessions whose last line is a code end in a login of that code's account
last_session_code_has_login : (accounts : Accounts) (sessions : List RecordedSession) (account : List ℕ) (sent : CodeTexts)
    → AllByRecursion (SessionMeets (demands accounts)) sessions
    → place_after sessions ≡ got_code account sent → EndsInLoginOf (flat_map session_lines sessions) account
last_session_code_has_login accounts [] account sent good e = absurd (cc e)
last_session_code_has_login accounts (s ∷ []) account sent good e =
    (s, ([], append-nil (session_lines s)), (session_codes_are_of_login accounts s good.0).1 account sent e)
last_session_code_has_login accounts (s ∷ t ∷ more) account sent good e =
    let (last, (before, same), login) = last_session_code_has_login accounts (t ∷ more) account sent good.1 e in (
      last,
      (
        session_lines s ++ before,
        ap (λ (l : List LogLine). session_lines s ++ l) same ∙ sym
            (append_assoc (session_lines s) before (session_lines last)),
      ),
      login,
    )

-- the law: if the reply to a code is due, the last lines are those of a session whose client-first message names the account
pub each_reply_due_follows_its_login : EachReplyDueFollowsItsLogin
each_reply_due_follows_its_login accounts log account sent told (inl none) = absurd (cc none.1)
each_reply_due_follows_its_login accounts log account sent told (inr s) =
    let (last, (before, same), login) = last_session_code_has_login accounts s.sessions account sent s.good (sym s.after) in
    (last, (header_one ∷ before, s.lines ∙ ap (λ (l : List LogLine). header_one ∷ l) same), login)
