-- A log that meets the demands is also a log without demands, in which no account is named.
use Rattle.std.proofs.Common.{◌≡◌, inl, inr, ℕ, Bool, true, false, List, [], ◌∷◌, ◌++◌, refl, sym, ◌∙◌, ap}
use Rattle.std.specs.Prelude.{flat_map, map}
use Rattle.std.specs.List.{AllByRecursion}
use Rattle.account_book.specs.AccountAttempt.{AccountAttempt, account_attempt_of}
use Rattle.log_grammar.specs.Lines.{LogLine, header_one, said, heard, bad, gone, cont, accepts, replies, resp, auth, auth_with, mechs, abort, code_line}
use Rattle.log_grammar.specs.Places.{Place, before_all, between, offered, asks_bare, waits_first, got_first, waits_final, got_final, waits_code}
use Rattle.log_grammar.specs.Places.{got_code, leaving, ending, halted}
use Rattle.log_grammar.specs.Demands.{Demands, no_demands, HaveDueReplies}
use Rattle.log_grammar.specs.Sessions.{Part, next_line, due_line, line_with_reply, closing, refusal, Farewell, parting, Quit, quitting, AfterOk}
use Rattle.log_grammar.specs.Sessions.{after_ok, AfterFinal, after_final, AfterChallenge, after_challenge, AfterFirst, after_first, AfterEmpty}
use Rattle.log_grammar.specs.Sessions.{after_empty, AfterAuth, after_auth, AfterMechs, after_mechs, RecordedSession, session_part, session_lines}
use Rattle.log_grammar.specs.Sessions.{session_told, SessionMeets, no_farewell, farewell, goes_away, aborts, sends_bad, no_code, quits_codes}
use Rattle.log_grammar.specs.Sessions.{unreplied, replied, halted_at, no_verdict, denied, granted, no_final, quits_final, sends_final, no_answer}
use Rattle.log_grammar.specs.Sessions.{refused, challenged, no_first, quits_first, sends_first, no_invitation, unoffered, invited, no_login}
use Rattle.log_grammar.specs.Sessions.{quits_login, with_first, without_first, session}
use Rattle.log_grammar.specs.Begins.{OnlyLastOpen, place_after, Begins}

-- a place with no account named
abbrev pub accountless_place : Place → Place
accountless_place before_all = before_all
accountless_place between = between
accountless_place offered = offered
accountless_place (asks_bare m) = asks_bare m
accountless_place (waits_first m) = waits_first m
accountless_place (got_first m first) = got_first m first
accountless_place (waits_final m account first challenge) = waits_final m [] first challenge
accountless_place (got_final m account first challenge last) = got_final m [] first challenge last
accountless_place (waits_code account) = waits_code []
accountless_place (got_code account sent) = got_code [] sent
accountless_place leaving = leaving
accountless_place ending = ending
accountless_place halted = halted

-- what follows a client-first message, with no account named
abbrev accountless_after_first : AfterFirst → AfterFirst
accountless_after_first no_answer = no_answer
accountless_after_first (refused text closed) = refused text closed
accountless_after_first (challenged account text p) = challenged [] text p

-- what follows the empty challenge, with no account named
abbrev accountless_after_empty : AfterEmpty → AfterEmpty
accountless_after_empty no_first = no_first
accountless_after_empty (quits_first q) = quits_first q
accountless_after_empty (sends_first first a) = sends_first first (accountless_after_first a)

-- what follows `C AUTH` without a message, with no account named
abbrev accountless_after_auth : AfterAuth → AfterAuth
accountless_after_auth no_invitation = no_invitation
accountless_after_auth (unoffered text closed) = unoffered text closed
accountless_after_auth (invited text f) = invited text (accountless_after_empty f)

-- what follows `S MECHS`, with no account named
abbrev accountless_after_mechs : AfterMechs → AfterMechs
accountless_after_mechs no_login = no_login
accountless_after_mechs (quits_login q) = quits_login q
accountless_after_mechs (with_first m first a) = with_first m first (accountless_after_first a)
accountless_after_mechs (without_first m i) = without_first m (accountless_after_auth i)

-- a session with no account named
abbrev pub accountless_session : RecordedSession → RecordedSession
accountless_session (session names l) = session names (accountless_after_mechs l)

-- a recorded reply with no account named
abbrev pub accountless_reply : AccountAttempt → AccountAttempt
accountless_reply t = account_attempt_of [] t.moment t.sent t.reply

-- `bare` is the part `own` with no account named
pub record IsAccountlessOf (bare own : Part) : Type 0 where
  -- it has the same lines
  pub lines : bare.lines ≡ own.lines
  -- its place is the same with no account named
  pub place : bare.place ≡ accountless_place own.place
  -- its recorded replies are the same with no account named
  pub told : bare.told ≡ map accountless_reply own.told
  -- it meets `no_demands`
  pub meets : bare.Meets no_demands

-- if a part stays the same with no account named, so does the part with a line before it
pub next_line_is_same_aside : (l : LogLine) (b own : Part) → IsAccountlessOf b own → IsAccountlessOf (next_line l b) (next_line l own)
next_line_is_same_aside l b own is =
    record { lines = ap (λ (t : List LogLine). l ∷ t) is.lines; place = is.place; told = is.told; meets = is.meets }

-- if a part stays the same with no account named, so does the part with a line before it that meets a demand
due_line_is_same_aside : (B Own : Demands → Type 0) (l : LogLine) (b own : Part) → B no_demands → IsAccountlessOf b own
    → IsAccountlessOf (due_line B l b) (due_line Own l own)
due_line_is_same_aside B Own l b own due is =
    record { lines = ap (λ (t : List LogLine). l ∷ t) is.lines; place = is.place; told = is.told; meets = (due, is.meets) }

-- if a part stays the same with no account named, so does the part with a line before it that records a reply
telling_line_is_same_aside : (t : AccountAttempt) (l : LogLine) (b own : Part) → IsAccountlessOf b own
    → IsAccountlessOf (line_with_reply (accountless_reply t) l b) (line_with_reply t l own)
telling_line_is_same_aside t l b own is =
    record {
      lines = ap (λ (ls : List LogLine). l ∷ ls) is.lines;
      place = is.place;
      told = ap (λ (ts : List AccountAttempt). accountless_reply t ∷ ts) is.told;
      meets = is.meets;
    }

-- the end of a session stays the same with no account named
pub closing_is_same_aside : (closed : Bool) → IsAccountlessOf (closing closed) (closing closed)
closing_is_same_aside true = record { lines = refl; place = refl; told = refl; meets = tt }
closing_is_same_aside false = record { lines = refl; place = refl; told = refl; meets = tt }

-- a refusal stays the same with no account named
refusal_is_same_aside : (B Own : Demands → Type 0) (text : List ℕ) (closed : Bool) → B no_demands
    → IsAccountlessOf (refusal B text closed) (refusal Own text closed)
refusal_is_same_aside B Own text closed due =
    record { lines = refl; place = (closing_is_same_aside closed).place; told = refl; meets = due }

-- what follows the client's line that ends a session stays the same with no account named
farewell_is_same_aside : (f : Farewell) → IsAccountlessOf (parting f) (parting f)
farewell_is_same_aside no_farewell = record { lines = refl; place = refl; told = refl; meets = tt }
farewell_is_same_aside (farewell text closed) = refusal_is_same_aside (λ d. d.farewell text) (λ d. d.farewell text) text closed tt

-- the end of a session by its client stays the same with no account named
quit_is_same_aside : (q : Quit) → IsAccountlessOf (quitting q) (quitting q)
quit_is_same_aside (goes_away closed) = next_line_is_same_aside gone _ _ (closing_is_same_aside closed)
quit_is_same_aside (aborts f) = next_line_is_same_aside (heard abort) _ _ (farewell_is_same_aside f)
quit_is_same_aside (sends_bad f) = next_line_is_same_aside bad _ _ (farewell_is_same_aside f)

-- the codes of a session stay the same with no account named
after_ok_is_same_aside : (account : List ℕ) (c : AfterOk) → IsAccountlessOf (after_ok [] c) (after_ok account c)
after_ok_is_same_aside account no_code = record { lines = refl; place = refl; told = refl; meets = tt }
after_ok_is_same_aside account (quits_codes q) = quit_is_same_aside q
after_ok_is_same_aside account (unreplied sent) = record { lines = refl; place = refl; told = refl; meets = tt }
after_ok_is_same_aside account (replied sent moment reply more) =
    next_line_is_same_aside (heard (code_line sent)) _ _ (telling_line_is_same_aside (account_attempt_of account moment sent reply)
    (said (replies moment reply)) _ _
    (after_ok_is_same_aside account more))
after_ok_is_same_aside account (halted_at sent) = record { lines = refl; place = refl; told = refl; meets = tt }

-- what follows the client-final message stays the same with no account named
after_final_is_same_aside : (m account first challenge last : List ℕ) (j : AfterFinal)
    → IsAccountlessOf (after_final m [] first challenge last j) (after_final m account first challenge last j)
after_final_is_same_aside m account first challenge last no_verdict = record { lines = refl; place = refl; told = refl; meets = tt }
after_final_is_same_aside m account first challenge last (denied text closed) =
    refusal_is_same_aside (λ d. d.denied m [] first challenge last text) (λ d. d.denied m account first challenge last text) text closed tt
after_final_is_same_aside m account first challenge last (granted text c) =
    due_line_is_same_aside (λ d. d.granted m [] first challenge last text) (λ d. d.granted m account first challenge last text)
    (said (accepts text)) _ _ tt
    (after_ok_is_same_aside account c)

-- what follows the challenge stays the same with no account named
after_challenge_is_same_aside : (m account first challenge : List ℕ) (p : AfterChallenge)
    → IsAccountlessOf (after_challenge m [] first challenge p) (after_challenge m account first challenge p)
after_challenge_is_same_aside m account first challenge no_final = record { lines = refl; place = refl; told = refl; meets = tt }
after_challenge_is_same_aside m account first challenge (quits_final q) = quit_is_same_aside q
after_challenge_is_same_aside m account first challenge (sends_final last j) =
    next_line_is_same_aside (heard (resp last)) _ _ (after_final_is_same_aside m account first challenge last j)

-- what follows a client-first message stays the same with no account named
after_first_is_same_aside : (m first : List ℕ) (a : AfterFirst)
    → IsAccountlessOf (after_first m first (accountless_after_first a)) (after_first m first a)
after_first_is_same_aside m first no_answer = record { lines = refl; place = refl; told = refl; meets = tt }
after_first_is_same_aside m first (refused text closed) =
    refusal_is_same_aside (λ d. d.refused m first text) (λ d. d.refused m first text) text closed tt
after_first_is_same_aside m first (challenged account text p) =
    due_line_is_same_aside (λ d. d.challenged m [] first text) (λ d. d.challenged m account first text) (said (cont text)) _ _ refl
    (after_challenge_is_same_aside m account first text p)

-- what follows the empty challenge stays the same with no account named
after_empty_is_same_aside : (m : List ℕ) (f : AfterEmpty) → IsAccountlessOf (after_empty m (accountless_after_empty f)) (after_empty m f)
after_empty_is_same_aside m no_first = record { lines = refl; place = refl; told = refl; meets = tt }
after_empty_is_same_aside m (quits_first q) = quit_is_same_aside q
after_empty_is_same_aside m (sends_first first a) = next_line_is_same_aside (heard (resp first)) _ _ (after_first_is_same_aside m first a)

-- what follows `C AUTH` without a message stays the same with no account named
after_auth_is_same_aside : (m : List ℕ) (i : AfterAuth) → IsAccountlessOf (after_auth m (accountless_after_auth i)) (after_auth m i)
after_auth_is_same_aside m no_invitation = record { lines = refl; place = refl; told = refl; meets = tt }
after_auth_is_same_aside m (unoffered text closed) =
    refusal_is_same_aside (λ d. d.unoffered m text) (λ d. d.unoffered m text) text closed tt
after_auth_is_same_aside m (invited text f) =
    due_line_is_same_aside (λ d. d.invited m text) (λ d. d.invited m text) (said (cont text)) _ _ tt (after_empty_is_same_aside m f)

-- what follows `S MECHS` stays the same with no account named
after_mechs_is_same_aside : (l : AfterMechs) → IsAccountlessOf (after_mechs (accountless_after_mechs l)) (after_mechs l)
after_mechs_is_same_aside no_login = record { lines = refl; place = refl; told = refl; meets = tt }
after_mechs_is_same_aside (quits_login q) = quit_is_same_aside q
after_mechs_is_same_aside (with_first m first a) =
    next_line_is_same_aside (heard (auth_with m first)) _ _ (after_first_is_same_aside m first a)
after_mechs_is_same_aside (without_first m i) = next_line_is_same_aside (heard (auth m)) _ _ (after_auth_is_same_aside m i)

-- a session with no account named has the same lines, the same place and replies except for the account, and meets `no_demands`
pub session_is_same_aside : (s : RecordedSession) → IsAccountlessOf (session_part (accountless_session s)) (session_part s)
session_is_same_aside (session names l) =
    due_line_is_same_aside (λ d. d.mechs names) (λ d. d.mechs names) (said (mechs names)) _ _ tt (after_mechs_is_same_aside l)

-- sessions with no account named have the same lines
sessions_have_same_lines : (sessions : List RecordedSession)
    → flat_map session_lines (map accountless_session sessions) ≡ flat_map session_lines sessions
sessions_have_same_lines [] = refl
sessions_have_same_lines (s ∷ sessions) =
    ap (λ (l : List LogLine). l ++ flat_map session_lines (map accountless_session sessions)) (session_is_same_aside s).lines
    ∙ ap (λ (l : List LogLine). session_lines s ++ l) (sessions_have_same_lines sessions)

-- sessions with no account named meet `no_demands`
sessions_meet_no_demands : (sessions : List RecordedSession) → AllByRecursion (SessionMeets no_demands) (map accountless_session sessions)
sessions_meet_no_demands [] = tt
sessions_meet_no_demands (s ∷ sessions) = ((session_is_same_aside s).meets, sessions_meet_no_demands sessions)

-- of sessions with no account named only the last may be open, if this is so of the others
only_last_stays_open_aside : (sessions : List RecordedSession) → OnlyLastOpen sessions → OnlyLastOpen (map accountless_session sessions)
only_last_stays_open_aside [] closed = tt
only_last_stays_open_aside (s ∷ []) closed = tt
only_last_stays_open_aside (s ∷ t ∷ more) closed =
    ((session_is_same_aside s).place ∙ ap accountless_place closed.0, only_last_stays_open_aside (t ∷ more) closed.1)

-- sessions with no account named lead to the same place with no account named
sessions_lead_to_same_place_aside : (sessions : List RecordedSession)
    → place_after (map accountless_session sessions) ≡ accountless_place (place_after sessions)
sessions_lead_to_same_place_aside [] = refl
sessions_lead_to_same_place_aside (s ∷ []) = (session_is_same_aside s).place
sessions_lead_to_same_place_aside (s ∷ t ∷ more) = sessions_lead_to_same_place_aside (t ∷ more)

-- without demands any replies are due, whatever replies came before
pub any_replies_are_due : (before told : List AccountAttempt) → HaveDueReplies no_demands before told
any_replies_are_due before [] = tt
any_replies_are_due before (t ∷ told) = (tt, any_replies_are_due (t ∷ before) told)

-- if a log may begin with some lines, it may also begin with them without the demands, up to the same place with no account named
pub log_begins_aside : (d : Demands) (log : List LogLine) (place : Place) (told : List AccountAttempt) → Begins d log place told
    → (told_are : List AccountAttempt) × Begins no_demands log (accountless_place place) told_are
log_begins_aside d log place told (inl nothing) = ([], inl (nothing.0, ap accountless_place nothing.1, refl))
log_begins_aside d log place told (inr s) = (
  flat_map session_told (map accountless_session s.sessions),
  inr (record {
    sessions = map accountless_session s.sessions;
    lines = s.lines ∙ ap (λ (l : List LogLine). header_one ∷ l) (sym (sessions_have_same_lines s.sessions));
    closed = only_last_stays_open_aside s.sessions s.closed;
    good = sessions_meet_no_demands s.sessions;
    told_are = refl;
    replies = any_replies_are_due [] (flat_map session_told (map accountless_session s.sessions));
    after = ap accountless_place s.after ∙ sym (sessions_lead_to_same_place_aside s.sessions);
  }),
)
