-- The counters that the PASS lines of a log use are those that the replies use which the log tells.
use Rattle.std.proofs.Common.{◌≡◌, inl, inr, ℕ, List, [], ◌∷◌, ◌++◌, reverse, refl, sym, ◌∙◌, ap, subst, append_assoc, append-nil}
use Rattle.std.specs.declared.option.Option.{Option}
use Rattle.std.specs.declared.option.Option.TheVariants.{None, Some}
use Rattle.std.proofs.lemmas.Grind.{flat_map-append}
use Rattle.std.proofs.lemmas.List.{reverse-append}
use Rattle.otp_core.specs.Attempt.{CodeTexts, one_text, two_texts, used_in_reply}
use Rattle.otp_core.specs.declared.token.reply.Reply.{Reply}
use Rattle.otp_core.specs.declared.token.reply.Reply.TheVariants.{Pass, Fail, Locked}
use Rattle.scram_text.proofs.lemmas.ListEnds.{appended_lists_keep_all}
use Rattle.account_book.specs.AccountAttempt.{AccountAttempt}
use Rattle.account_book.specs.Spent.{spent_by, spent_by_all, of_account}
use Rattle.log_grammar.specs.Lines.{LogLine, said, heard, bad, gone, accepts, replies, busy, abort, code_line}
use Rattle.log_grammar.specs.Places.{Place, offered, waits_first, waits_final, got_final, waits_code, got_code}
use Rattle.log_grammar.specs.Demands.{Accounts, demands}
use Rattle.log_grammar.specs.Begins.{Begins}
use Rattle.log_grammar.specs.Numbered.{Numbered, of_number, IsNumberedLogUpTo}
use Rattle.log_grammar.specs.state_machine.Steps.{told_at}
use Rattle.log_grammar.specs.state_machine.NumberedSteps.{IsVisitTransition}
use Rattle.log_grammar.proofs.lemmas.ListEnds.{holds_by_last}
use Rattle.log_grammar.proofs.lemmas.state_machine.LogSteps.{log_has_last_transition, no_lines_begin_before_all}
use Rattle.log_grammar.proofs.lemmas.state_machine.Transitions.{IsClientsTurn, HoldsOfEachKind, each_transition_holds}
use Rattle.log_grammar.proofs.lemmas.many_sessions.OneReading.{empty_log_tells_nothing}
use Rattle.log_grammar.proofs.lemmas.many_sessions.WithoutLast.{numbered_log_has_last_transition}
use Rattle.log_grammar.proofs.lemmas.outcome_laws.LeadingLines.{LeadByLast, LogLeads, logs_lead, numbers_lead, numbered_log_leads}
use Rattle.log_grammar.proofs.lemmas.login_laws.ValidLogins.{ok_completes_login}
use Rattle.sasl_desk.specs.Passes.{IsOfCodes, IsLoggedIn, HasSentCodes, AreUsedByLine, AreUsedByNumbered, AreUsedByEach, ArePassed, AreNumberedPassed}

-- a line with codes is a line of codes
sent_codes_are_of_codes : (sent : CodeTexts) → IsOfCodes (heard (code_line sent))
sent_codes_are_of_codes (one_text text) = tt
sent_codes_are_of_codes (two_texts first second) = tt

-- a client who has logged in is still logged in after one more line of codes
codes_keep_login : (accounts : Accounts) (lines : List LogLine) (account : List ℕ) (line : LogLine) → IsOfCodes line
    → IsLoggedIn accounts lines account → IsLoggedIn accounts (lines ++ line ∷ []) account
codes_keep_login accounts lines account line is in_it = record {
  before = in_it.before;
  server_final = in_it.server_final;
  codes = in_it.codes ++ line ∷ [];
  are_lines = ap (λ (l : List LogLine). l ++ line ∷ []) in_it.are_lines
      ∙ append_assoc in_it.before (said (accepts in_it.server_final) ∷ in_it.codes) (line ∷ []);
  login = in_it.login;
  only_codes = appended_lists_keep_all IsOfCodes in_it.codes (line ∷ []) in_it.only_codes (is, tt);
}

-- after the lines of a place where codes are due or get a reply, the client has logged in to the account of the place
abbrev HasItsLogin : Accounts → List LogLine → Place → Type 0
HasItsLogin accounts lines (waits_code account) = IsLoggedIn accounts lines account
HasItsLogin accounts lines (got_code account sent) = HasSentCodes accounts lines account sent
HasItsLogin accounts lines place = Unit {0}

-- lines that lead to places, in a log of either version
module _ (accounts : Accounts) {Leads : List LogLine → Place → Type 0} (l : LeadByLast (demands accounts) Leads) where
  -- a line leads from a place with its login to one with its login
  abbrev KeepsLogin : Place → LogLine → Place → Type 0
  KeepsLogin at line next = (lines : List LogLine) → Leads lines at → HasItsLogin accounts lines at
      → HasItsLogin accounts (lines ++ line ∷ []) next

  -- after an `S OK` the client has logged in to the account of the place
  acceptance_logs_in : (account : List ℕ) (at : Place) (text : List ℕ) (lines : List LogLine) → Leads lines at
      → IsVisitTransition (demands accounts) at (said (accepts text)) (waits_code account)
      → IsLoggedIn accounts (lines ++ said (accepts text) ∷ []) account
  acceptance_logs_in account at text lines leads goes =
      let (name, login, same) = ok_completes_login accounts l lines text at (waits_code account) leads goes in
      let names : account ≡ name = cc same in
      record {
        before = lines;
        server_final = text;
        codes = [];
        are_lines = refl;
        login = rw names login;
        only_codes = tt;
      }

  -- after the reply to a code its client is still logged in
  reply_keeps_login : (account : List ℕ) (sent : CodeTexts) (moment : ℕ) (reply : Option Reply) (lines : List LogLine)
      → HasSentCodes accounts lines account sent → IsLoggedIn accounts (lines ++ said (replies moment reply) ∷ []) account
  reply_keeps_login account sent moment reply lines (earlier, same, login) =
      let with_codes = codes_keep_login accounts earlier account (heard (code_line sent)) (sent_codes_are_of_codes sent) login in
      codes_keep_login accounts lines account (said (replies moment reply)) tt
      (subst (λ (ls : List LogLine). IsLoggedIn accounts ls account) (sym same) with_codes)

  -- each kind of line leads to a place with its login
  each_kind_keeps_login : HoldsOfEachKind (demands accounts) KeepsLogin
  each_kind_keeps_login = record {
    first_line = λ lines leads is. tt;
    session = λ names due lines leads is. tt;
    aborts = λ at turn lines leads is. tt;
    sends_bad = λ at turn lines leads is. tt;
    goes_away = λ at turn lines leads is. tt;
    farewell = λ text due lines leads is. tt;
    closed = λ lines leads is. tt;
    without_first = λ m lines leads is. tt;
    unoffered = λ m text due lines leads is. tt;
    invited = λ m text due lines leads is. tt;
    sends_first = λ m first lines leads is. tt;
    with_first = λ m first lines leads is. tt;
    refused = λ m first text due lines leads is. tt;
    challenged = λ m account first challenge due lines leads is. tt;
    sends_final = λ m account first challenge last lines leads is. tt;
    denied = λ m account first challenge last text due lines leads is. tt;
    granted = λ m account first challenge last text due lines leads is.
        acceptance_logs_in account (got_final m account first challenge last) text lines leads (inl (due, refl));
    sends_code = λ account text lines leads is. (lines, refl, is);
    sends_two_codes = λ account one two lines leads is. (lines, refl, is);
    replied = λ account sent moment reply lines leads is. reply_keeps_login account sent moment reply lines is;
    halts = λ account sent lines leads is. tt;
  }

  -- each line that may stand leads to a place with its login
  line_keeps_login : (at : Place) (line : LogLine) (next : Place) → IsVisitTransition (demands accounts) at line next → KeepsLogin at line next
  line_keeps_login at line next (inl goes) = each_transition_holds (demands accounts) KeepsLogin each_kind_keeps_login at line next goes
  line_keeps_login at line next (inr away) =
      λ lines leads is. subst (λ (p : Place). HasItsLogin accounts (lines ++ line ∷ []) p) (sym away.2) tt

  -- lines that lead to a place have its login
  lines_have_their_login : (lines : List LogLine) (place : Place) → Leads lines place → HasItsLogin accounts lines place
  lines_have_their_login = holds_by_last (λ lines. (place : Place) → Leads lines place → HasItsLogin accounts lines place)
      (λ place h. elim (l.none place h) [
        | inl is ↦ subst (λ (p : Place). HasItsLogin accounts [] p) (sym is) tt
        | inr is ↦ subst (λ (p : Place). HasItsLogin accounts [] p) (sym is) tt
      ])
      (λ lines line earlier place h.
      let (at, before, goes) = l.last lines line place h in
      line_keeps_login at line place goes lines before (earlier at before))

-- at the client's turn no line completes an attempt
client_line_tells_nothing : (at : Place) → IsClientsTurn at → (line : LogLine) → told_at at line ≡ []
client_line_tells_nothing offered turn line = refl
client_line_tells_nothing (waits_first m) turn line = refl
client_line_tells_nothing (waits_final m account first challenge) turn line = refl
client_line_tells_nothing (waits_code account) turn line = refl
client_line_tells_nothing at turn line = absurd turn

-- the counters that the attempts use which a line completes at a place
abbrev used_at : Place → LogLine → List (List ℕ × ℕ)
used_at at line = spent_by_all (reverse (told_at at line))

-- a line at the client's turn uses no counter
client_line_uses_none : (at : Place) → IsClientsTurn at → (line : LogLine) → used_at at line ≡ []
client_line_uses_none at turn line = ap (λ (t : List AccountAttempt). spent_by_all (reverse t)) (client_line_tells_nothing at turn line)

-- a line uses the counters that the attempt uses which it completes
abbrev UsesWhatItTells : Accounts → Place → LogLine → Place → Type 0
UsesWhatItTells accounts at line next = (lines : List LogLine) → HasItsLogin accounts lines at
    → AreUsedByLine accounts lines line (used_at at line)

-- a reply uses the counters that its attempt uses
reply_uses_what_it_tells : (accounts : Accounts) (account : List ℕ) (sent : CodeTexts) (moment : ℕ) (reply : Option Reply)
    (lines : List LogLine) → HasSentCodes accounts lines account sent
    → AreUsedByLine accounts lines (said (replies moment reply)) (used_at (got_code account sent) (said (replies moment reply)))
reply_uses_what_it_tells accounts account sent moment (Some (Pass counter)) lines is =
    (account, sent, is, append-nil (of_account account (used_in_reply sent (Pass counter))))
reply_uses_what_it_tells accounts account sent moment (Some Fail) lines is = refl
reply_uses_what_it_tells accounts account sent moment (Some Locked) lines is = refl
reply_uses_what_it_tells accounts account sent moment None lines is = refl

-- each kind of line uses the counters that the attempt uses which it completes
each_kind_uses_what_it_tells : (accounts : Accounts) → HoldsOfEachKind (demands accounts) (UsesWhatItTells accounts)
each_kind_uses_what_it_tells accounts = record {
  first_line = λ lines is. refl;
  session = λ names due lines is. refl;
  aborts = λ at turn lines is. client_line_uses_none at turn (heard abort);
  sends_bad = λ at turn lines is. client_line_uses_none at turn bad;
  goes_away = λ at turn lines is. client_line_uses_none at turn gone;
  farewell = λ text due lines is. refl;
  closed = λ lines is. refl;
  without_first = λ m lines is. refl;
  unoffered = λ m text due lines is. refl;
  invited = λ m text due lines is. refl;
  sends_first = λ m first lines is. refl;
  with_first = λ m first lines is. refl;
  refused = λ m first text due lines is. refl;
  challenged = λ m account first challenge due lines is. refl;
  sends_final = λ m account first challenge last lines is. refl;
  denied = λ m account first challenge last text due lines is. refl;
  granted = λ m account first challenge last text due lines is. refl;
  sends_code = λ account text lines is. refl;
  sends_two_codes = λ account one two lines is. refl;
  replied = λ account sent moment reply lines is. reply_uses_what_it_tells accounts account sent moment reply lines is;
  halts = λ account sent lines is. refl;
}

-- each line that may stand uses the counters that the attempt uses which it completes
line_uses_what_it_tells : (accounts : Accounts) (at : Place) (line : LogLine) (next : Place)
    → IsVisitTransition (demands accounts) at line next → UsesWhatItTells accounts at line next
line_uses_what_it_tells accounts at line next (inl goes) =
    each_transition_holds (demands accounts) (UsesWhatItTells accounts) (each_kind_uses_what_it_tells accounts) at line next goes
line_uses_what_it_tells accounts at line next (inr away) =
    λ lines is. subst (λ (x : LogLine). AreUsedByLine accounts lines x (used_at at x)) (sym away.1)
    (subst (λ (p : Place). AreUsedByLine accounts lines (said busy) (used_at p (said busy))) (sym away.0) refl)

-- lines use the counters that they used, and with one more line at their end those of this line as well
last_line_adds_its_counters : {X : Type 0} (AreUsedBy : List X → X → List (List ℕ × ℕ) → Type 0) (before lines : List X) (line : X)
    (used own : List (List ℕ × ℕ)) → AreUsedByEach AreUsedBy before lines used → AreUsedBy (before ++ lines) line own
    → AreUsedByEach AreUsedBy before (lines ++ line ∷ []) (own ++ used)
last_line_adds_its_counters {X = X} AreUsedBy before [] line used own empty by = (
  own,
  [],
  subst (λ (b : List X). AreUsedBy b line own) (append-nil before) by,
  refl,
  ap (λ (u : List (List ℕ × ℕ)). own ++ u) empty ∙ append-nil own,
)
last_line_adds_its_counters {X = X} AreUsedBy before (x ∷ lines) line used own (first, later, by_first, by_rest, same) by = (
  first,
  own ++ later,
  by_first,
  last_line_adds_its_counters AreUsedBy (before ++ x ∷ []) lines line later own by_rest
      (subst (λ (b : List X). AreUsedBy b line own) (sym (append_assoc before (x ∷ []) lines)) by),
  ap (λ (u : List (List ℕ × ℕ)). own ++ u) same ∙ sym (append_assoc own later first),
)

-- attempts use the counters of the earlier of them, and before these stand those of the later
later_counters_stand_first : (told more : List AccountAttempt)
    → spent_by_all (reverse (told ++ more)) ≡ spent_by_all (reverse more) ++ spent_by_all (reverse told)
later_counters_stand_first told more =
    ap spent_by_all (reverse-append told more) ∙ flat_map-append spent_by (reverse more) (reverse told)

-- the counters of all attempts, of which the last were told at a place, are used by all lines if those of the earlier are by the lines
-- before the last one
all_told_are_used : {X : Type 0} (AreUsedBy : List X → X → List (List ℕ × ℕ) → Type 0) (lines : List X) (line : X)
    (all told more : List AccountAttempt) → all ≡ told ++ more → AreUsedByEach AreUsedBy [] lines (spent_by_all (reverse told))
    → AreUsedBy lines line (spent_by_all (reverse more)) → AreUsedByEach AreUsedBy [] (lines ++ line ∷ []) (spent_by_all (reverse all))
all_told_are_used AreUsedBy lines line all told more are earlier by =
    subst (λ (u : List (List ℕ × ℕ)). AreUsedByEach AreUsedBy [] (lines ++ line ∷ []) u)
    (sym (ap (λ (t : List AccountAttempt). spent_by_all (reverse t)) are ∙ later_counters_stand_first told more))
    (last_line_adds_its_counters AreUsedBy [] lines line (spent_by_all (reverse told)) (spent_by_all (reverse more)) earlier by)

-- the PASS lines of a log of version 1 use the counters that the replies use which it tells
pub told_counters_are_passed : (accounts : Accounts) (lines : List LogLine) (place : Place) (told : List AccountAttempt)
    → Begins (demands accounts) lines place told → ArePassed accounts lines (spent_by_all (reverse told))
told_counters_are_passed accounts = holds_by_last
    (λ lines. (place : Place) (told : List AccountAttempt) → Begins (demands accounts) lines place told
    → ArePassed accounts lines (spent_by_all (reverse told)))
    (λ place told begins. ap (λ (t : List AccountAttempt). spent_by_all (reverse t))
    (no_lines_begin_before_all (demands accounts) place told begins).1)
    (λ lines line earlier place all begins.
    let d = demands accounts in
    let s = log_has_last_transition d lines line place all begins in
    let leads : LogLeads d lines s.place = record { told = s.told; begins = s.begins } in
    all_told_are_used (AreUsedByLine accounts) lines line all s.told (told_at s.place line) s.told_are (earlier s.place s.told s.begins)
    (line_uses_what_it_tells accounts s.place line place (inl s.goes) lines
    (lines_have_their_login accounts (logs_lead d) lines s.place leads)))

-- the PASS lines of a log of version 2 use the counters that the replies use which it tells
pub told_counters_are_passed_under_numbers : (limit : ℕ) (accounts : Accounts) (lines : List (Numbered LogLine)) (places : ℕ → Place)
    (told : List AccountAttempt) → IsNumberedLogUpTo limit (demands accounts) lines places told
    → AreNumberedPassed accounts lines (spent_by_all (reverse told))
told_counters_are_passed_under_numbers limit accounts = holds_by_last
    (λ lines. (places : ℕ → Place) (told : List AccountAttempt) → IsNumberedLogUpTo limit (demands accounts) lines places told
    → AreNumberedPassed accounts lines (spent_by_all (reverse told)))
    (λ places told s. ap (λ (t : List AccountAttempt). spent_by_all (reverse t))
    (empty_log_tells_nothing limit (demands accounts) places told s).1)
    (λ lines x earlier places all s.
    let d = demands accounts in
    let n = x.number in
    let h = numbered_log_has_last_transition limit d lines n x.value places all s in
    let leads = numbered_log_leads limit d lines h.before h.told h.spells n in
    all_told_are_used (AreUsedByNumbered accounts) lines x all h.told (told_at (h.before n) x.value) h.told_are (earlier h.before h.told h.spells)
    (line_uses_what_it_tells accounts (h.before n) x.value (places n) h.goes.goes (of_number n lines)
    (lines_have_their_login accounts (numbers_lead d) (of_number n lines) (h.before n) leads)))
