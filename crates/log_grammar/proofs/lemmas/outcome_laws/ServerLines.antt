-- Where each of the server's lines may stand: the places from which a log continues with it.
use Rattle.std.proofs.Common.{◌≡◌, inl, inr, ℕ, List, [], ◌∷◌, ◌++◌, reverse, refl, sym, ◌∙◌, ap, subst, append_assoc, append-nil}
use Rattle.std.specs.declared.option.Option.{Option}
use Rattle.mac_core.specs.declared.mechanism.Mechanism.{Mechanism}
use Rattle.otp_core.specs.Attempt.{CodeTexts}
use Rattle.otp_core.specs.declared.token.reply.Reply.{Reply}
use Rattle.scram_ends.specs.Stages.{challenged_login}
use Rattle.scram_ends.specs.Verdict.{accept, refuse, IsDue}
use Rattle.scram_ends.specs.declared.verdict.Refusal.{Refusal}
use Rattle.scram_ends.proofs.lemmas.Verdicts.{at_most_one_verdict_is_due, accepts_exactly_valid}
use Rattle.account_book.specs.AccountAttempt.{AccountAttempt}
use Rattle.log_grammar.specs.Lines.{LogLine, said, mechs, cont, refuses, replies, halt}
use Rattle.log_grammar.specs.Places.{Place, between, offered, asks_bare, got_first, got_final, got_code, leaving, ending, halted}
use Rattle.log_grammar.specs.Demands.{Accounts, IsVerdictDue, demands, HaveDueReplies}
use Rattle.log_grammar.specs.state_machine.Steps.{IsTransition, told_at}
use Rattle.log_grammar.specs.state_machine.NumberedSteps.{IsVisitTransition}
use Rattle.log_grammar.specs.Begins.{Begins}
use Rattle.log_grammar.specs.laws.Logins.{exchange_of, IsLoginTo, IsNoLogin}
use Rattle.log_grammar.specs.laws.Outcomes.{FirstLinesBeginLogs, EachOfferIsDue, IsChallengeDue, EachChallengeIsDue, IsRefusalDueAt}
use Rattle.log_grammar.specs.laws.Outcomes.{EachRefusalIsDue, IsReplied, EachReplyIsDue, EachHaltEndsACode}
use Rattle.log_grammar.proofs.lemmas.state_machine.LogSteps.{log_goes_on, log_has_last_transition}
use Rattle.log_grammar.proofs.lemmas.ListEnds.{holds_by_last}
use Rattle.log_grammar.proofs.lemmas.kinds.OneWhy.{one_mechanism}
use Rattle.log_grammar.proofs.lemmas.login_laws.ValidLogins.{login_is_to_challenged_account}
use Rattle.log_grammar.proofs.lemmas.outcome_laws.LeadingLines.{LeadByLast, logs_lead}
use Rattle.log_grammar.proofs.lemmas.outcome_laws.QuietLines.{quiet_line_keeps_told, log_goes_on_quietly}
use Rattle.log_grammar.proofs.lemmas.outcome_laws.PlaceMessages.{lines_have_their_messages, three_messages_lead}

-- replies that come first still do when more are added at the end
told_first_stays_first : (told before rest told_are : List AccountAttempt) → before ≡ told ++ rest
    → before ++ told_are ≡ told ++ (rest ++ told_are)
told_first_stays_first told before rest told_are same = ap (λ (l : List AccountAttempt). l ++ told_are) same
    ∙ append_assoc told rest told_are

-- the law: the first lines of what a log may begin with also begin a log, and their replies come first
pub first_lines_begin_logs : FirstLinesBeginLogs
first_lines_begin_logs accounts log = holds_by_last
    (λ more. (place : Place) (told : List AccountAttempt) → Begins (demands accounts) (log ++ more) place told
    → (at : Place) × (before : List AccountAttempt) × (rest : List AccountAttempt) × Begins (demands accounts) log at before
    × (told ≡ before ++ rest))
    (λ place told begins. (
      place,
      told,
      [],
      subst (λ (l : List LogLine). Begins (demands accounts) l place told) (append-nil log) begins,
      sym (append-nil told),
    ))
    (λ more line earlier place told begins.
    let s = log_has_last_transition (demands accounts) (log ++ more) line place told
    (subst (λ (l : List LogLine). Begins (demands accounts) l place told) (sym (append_assoc log more (line ∷ []))) begins) in
    let (at, before, rest, front, same) = earlier s.place s.told s.begins in
    let told_are = told_at s.place line in
    (at, before, rest ++ told_are, front, s.told_are ∙ told_first_stays_first before s.told rest told_are same))

module _ (accounts : Accounts) (log : List LogLine) where
  -- `S MECHS` may stand only between sessions, with the names that are demanded, and leads to the place after an offer
  offer_is_due : (names : List ℕ) (next at : Place) (all told : List AccountAttempt) → all ≡ told ++ told_at at (said (mechs names))
      → Begins (demands accounts) log at told → IsTransition (demands accounts) at (said (mechs names)) next
      → Begins (demands accounts) log between all × (demands accounts).mechs names × (next ≡ offered)
  offer_is_due names next between all told same b goes =
      (quiet_line_keeps_told accounts log between (said (mechs names)) all told refl same b, goes.0, goes.1)
  offer_is_due names next at all told same b goes = absurd goes

  -- `S CONT` may stand only with a challenge that is due
  challenge_is_due : (text : List ℕ) (next at : Place) (all told : List AccountAttempt) → all ≡ told ++ told_at at (said (cont text))
      → Begins (demands accounts) log at told → IsTransition (demands accounts) at (said (cont text)) next
      → IsChallengeDue accounts log text next all
  challenge_is_due text next (asks_bare m) all told same b goes =
      inl (m, quiet_line_keeps_told accounts log (asks_bare m) (said (cont text)) all told refl same b, goes.0.0, goes.0.1, goes.1)
  challenge_is_due text next (got_first m first) all told same b goes =
      inr (m, first, goes.0, quiet_line_keeps_told accounts log (got_first m first) (said (cont text)) all told refl same b, goes.1, goes.2)
  challenge_is_due text next at all told same b goes = absurd goes

  -- `S CONT` may stand with a challenge that is due
  due_challenge_may_stand : (text : List ℕ) (next : Place) (told : List AccountAttempt) → IsChallengeDue accounts log text next told
      → Begins (demands accounts) (log ++ said (cont text) ∷ []) next told
  due_challenge_may_stand text next told (inl (m, begins, is, none, at)) =
      log_goes_on_quietly accounts log (asks_bare m) told (said (cont text)) next refl begins ((is, none), at)
  due_challenge_may_stand text next told (inr (m, first, name, begins, is, at)) =
      log_goes_on_quietly accounts log (got_first m first) told (said (cont text)) next refl begins (name, is, at)

  -- a reply to a code may stand only if it is the one due
  reply_is_due : (moment : ℕ) (reply : Option Reply) (next at : Place) (all told : List AccountAttempt)
      → all ≡ told ++ told_at at (said (replies moment reply))
      → HaveDueReplies (demands accounts) (reverse told) (told_at at (said (replies moment reply))) → Begins (demands accounts) log at told
      → IsTransition (demands accounts) at (said (replies moment reply)) next → IsReplied accounts log moment reply next all
  reply_is_due moment reply next (got_code account sent) all told same due b goes =
      record { account = account; sent = sent; told = told; after = b; due = due.0; told_are = same; is_next = goes }
  reply_is_due moment reply next at all told same due b goes = absurd goes

-- the law: `S MECHS` may stand if and only if it is between sessions and has the names of the two mechanisms
pub each_offer_is_due : EachOfferIsDue
each_offer_is_due accounts log names next told = (
  λ begins.
      let s = log_has_last_transition (demands accounts) log (said (mechs names)) next told begins in
      offer_is_due accounts log names next s.place told s.told s.told_are s.begins s.goes,
  λ is. log_goes_on_quietly accounts log between told (said (mechs names)) next refl is.0 (is.1, is.2),
)

-- the law: `S CONT` may stand if and only if it is the empty challenge of an offered mechanism, or a challenge that is due to the
-- client-first message
pub each_challenge_is_due : EachChallengeIsDue
each_challenge_is_due accounts log text next told = (
  λ begins.
      let s = log_has_last_transition (demands accounts) log (said (cont text)) next told begins in
      challenge_is_due accounts log text next s.place told s.told s.told_are s.begins s.goes,
  λ is. due_challenge_may_stand accounts log text next told is,
)

-- messages whose verdict is a refusal are not those of a valid login
refused_login_is_invalid : (accounts : Accounts) (mechanism name client_first server_first client_final : List ℕ) (why : Refusal)
    → IsVerdictDue accounts mechanism name client_first server_first client_final (refuse why) → (server_final : List ℕ)
    → IsLoginTo accounts mechanism name (exchange_of client_first server_first client_final server_final) → ⊥
refused_login_is_invalid accounts mechanism name client_first server_first client_final why (m, named, due) server_final l =
    let same = one_mechanism l.m m (sym l.offered ∙ named) in
    let login = challenged_login (accounts.entry l.m name) l.m client_first server_first in
    let accepted = (accepts_exactly_valid login client_final server_final).1 l.login in
    let here = subst (λ (k : Mechanism). IsDue (challenged_login (accounts.entry k name) k client_first server_first) client_final
    (accept accepted.0)) same accepted.1 in
    let wrong = at_most_one_verdict_is_due (challenged_login (accounts.entry m name) m client_first server_first) client_final (refuse why)
    (accept accepted.0) due here in cc wrong

-- a refusal that is due at a place may stand there
pub due_refusal_may_stand : (accounts : Accounts) (text : List ℕ) (at : Place) → IsRefusalDueAt accounts at text
    → IsTransition (demands accounts) at (said (refuses text)) ending
due_refusal_may_stand accounts text (asks_bare m) due = ((due.0, due.1), refl)
due_refusal_may_stand accounts text (got_first m first) due = ((due.0, due.1), refl)
due_refusal_may_stand accounts text (got_final m name first challenge last) due = (due.0, refl)
due_refusal_may_stand accounts text leaving due = (due, refl)
due_refusal_may_stand accounts text at due = absurd due

-- lines that lead to places, in a log of either version
module _ (accounts : Accounts) {Leads : List LogLine → Place → Type 0} (l : LeadByLast (demands accounts) Leads) where
  -- three messages whose verdict is a refusal are a login to no account
  refused_messages_are_no_login : (lines : List LogLine) (m name first challenge last : List ℕ) (why : Refusal)
      → Leads lines (got_final m name first challenge last) → IsVerdictDue accounts m name first challenge last (refuse why)
      → IsNoLogin accounts m first challenge last
  refused_messages_are_no_login lines m name first challenge last why leads is claimed server_final login =
      let at = got_final m name first challenge last in
      let three = three_messages_lead l m first challenge last lines at (lines_have_their_messages accounts l lines at leads) leads in
      let same : three.account ≡ name = cc three.at in
      let exchange = exchange_of first challenge last server_final in
      let here = login_is_to_challenged_account accounts m claimed three.account exchange login three.due ∙ same in
      refused_login_is_invalid accounts m name first challenge last why is server_final
      (subst (λ (n : List ℕ). IsLoginTo accounts m n exchange) here login)

  -- `S NO` may stand only if it is the refusal that is due at its place
  pub refusal_is_due : (lines : List LogLine) (text : List ℕ) (at next : Place) → Leads lines at
      → IsVisitTransition (demands accounts) at (said (refuses text)) next → IsRefusalDueAt accounts at text × (next ≡ ending)
  refusal_is_due lines text at next leads (inr busy) = absurd (cc busy.1)
  refusal_is_due lines text (asks_bare m) next leads (inl goes) = ((goes.0.0, goes.0.1), goes.1)
  refusal_is_due lines text (got_first m first) next leads (inl goes) = ((goes.0.0, goes.0.1), goes.1)
  refusal_is_due lines text (got_final m name first challenge last) next leads (inl goes) =
      let (why, is, same) = goes.0 in
      (((why, is, same), refused_messages_are_no_login lines m name first challenge last why leads is), goes.1)
  refusal_is_due lines text leaving next leads (inl goes) = (goes.0, goes.1)
  refusal_is_due lines text at next leads (inl goes) = absurd goes

-- the law: `S NO` may stand if and only if it is the refusal that is due, which no valid login gets
pub each_refusal_is_due : EachRefusalIsDue
each_refusal_is_due accounts log text next told =
    let d = demands accounts in
    let line = said (refuses text) in (
      λ begins.
          let s = log_has_last_transition d log line next told begins in
          let due = refusal_is_due accounts (logs_lead d) log text s.place next
          (record { told = s.told; begins = s.begins }) (inl s.goes) in
          (s.place, quiet_line_keeps_told accounts log s.place line told s.told refl s.told_are s.begins, due.0, due.1),
      λ is.
          log_goes_on_quietly accounts log is.0 told line next refl is.1
          (subst (λ (p : Place). IsTransition d is.0 line p) (sym is.3) (due_refusal_may_stand accounts text is.0 is.2)),
    )

-- the law: a reply may stand if and only if it is the one due to one or two codes, after the earlier replies to its account
pub each_reply_is_due : EachReplyIsDue
each_reply_is_due accounts log moment reply next all = (
  λ begins.
      let s = log_has_last_transition (demands accounts) log (said (replies moment reply)) next all begins in
      reply_is_due accounts log moment reply next s.place all s.told s.told_are s.due s.begins s.goes,
  λ r.
      subst (λ (t : List AccountAttempt). Begins (demands accounts) (log ++ said (replies moment reply) ∷ []) next t) (sym r.told_are)
      (log_goes_on (demands accounts) log (got_code r.account r.sent) r.told (said (replies moment reply)) next r.after r.is_next
      (r.due, tt)),
)

-- the log ends in a line with one or two codes that waits for its reply, and the next place is the halt
abbrev EndsCode : Accounts → List LogLine → Place → List AccountAttempt → Type 0
EndsCode accounts log next told =
    (account : List ℕ) × (sent : CodeTexts) × Begins (demands accounts) log (got_code account sent) told × (next ≡ halted)

-- `S HALT` may stand only while a code waits for its reply, and leads to the halt
halt_ends_code : (accounts : Accounts) (log : List LogLine) (next at : Place) (all told : List AccountAttempt)
    → all ≡ told ++ told_at at (said halt)
    → Begins (demands accounts) log at told → IsTransition (demands accounts) at (said halt) next → EndsCode accounts log next all
halt_ends_code accounts log next (got_code account sent) all told same b goes =
    (account, sent, quiet_line_keeps_told accounts log (got_code account sent) (said halt) all told refl same b, goes)
halt_ends_code accounts log next at all told same b goes = absurd goes

-- the law: `S HALT` may stand if and only if it follows one or two codes, instead of their reply
pub each_halt_ends_a_code : EachHaltEndsACode
each_halt_ends_a_code accounts log next told = (
  λ begins.
      let s = log_has_last_transition (demands accounts) log (said halt) next told begins in
      halt_ends_code accounts log next s.place told s.told s.told_are s.begins
      s.goes,
  λ is. log_goes_on_quietly accounts log (got_code is.0 is.1) told (said halt) next refl is.2 is.3,
)
