-- Each line that says what a reason names as due may replace the line at fault.
use Rattle.std.proofs.Common.{◌≡◌, inl, inr, ℕ, List, [], reverse, refl, sym, ◌∙◌, subst}
use Rattle.scram_ends.specs.Verdict.{accept, refuse}
use Rattle.scram_ends.specs.Login.{IsAuthentic}
use Rattle.account_book.specs.AccountAttempt.{AccountAttempt}
use Rattle.log_grammar.specs.Lines.{LogLine, said, mechs, cont, accepts, refuses, replies, IsLogLine, IsLogLineInRange, IsLogLineWritable}
use Rattle.log_grammar.specs.Places.{Place, asks_bare, got_first, got_final, waits_code, got_code, leaving}
use Rattle.log_grammar.specs.Demands.{Accounts, demands, HaveDueReplies}
use Rattle.log_grammar.specs.laws.FitAccounts.{AllCanBeChallenged}
use Rattle.log_grammar.specs.state_machine.Steps.{IsTransition, told_at}
use Rattle.log_grammar.specs.state_machine.DueClasses.{IsDueAt}
use Rattle.log_grammar.specs.Why.{Why, is_cut, no_line, out_of_order, other_mechs, other_challenge, other_outcome, other_reply, accepted}
use Rattle.log_grammar.specs.Why.{refused_with, IsReasonForAnswer, IsReasonForReply, IsReasonForLine, class_of}
use Rattle.log_grammar.specs.laws.Reasons.{SaysWhatIsDue, NamesWhatIsDue, EachLineThatIsDueMayStand}
use Rattle.log_grammar.proofs.lemmas.kinds.ShownByLines.{fault_follows_read_lines}
use Rattle.log_grammar.proofs.lemmas.reason_laws.Mended.{some_line_mends_line, named_reason_is_of_line, following_line_begins_clean}
use Rattle.log_grammar.proofs.lemmas.state_machine.Standings.{Follows}

-- the reason names neither a challenge nor an acceptance as due, so that only one line says what is due
abbrev NamesOneLine : Why → Type 0
NamesOneLine other_challenge = ⊥
NamesOneLine (other_outcome (accepted signature)) = ⊥
NamesOneLine why = Unit {0}

-- if a reason names neither a challenge nor an acceptance as due, at most one line says what is due
one_line_says_due : (why : Why) (one other : LogLine) → NamesOneLine why → SaysWhatIsDue why one → SaysWhatIsDue why other → one ≡ other
one_line_says_due is_cut one other single says also = absurd says
one_line_says_due no_line one other single says also = absurd says
one_line_says_due out_of_order one other single says also = absurd says
one_line_says_due other_mechs one other single says also = says ∙ sym also
one_line_says_due other_challenge one other single says also = absurd single
one_line_says_due (other_outcome (accepted signature)) one other single says also = absurd single
one_line_says_due (other_outcome (refused_with message)) one other single says also = says ∙ sym also
one_line_says_due (other_reply moment due) one other single says also = says ∙ sym also

-- if some line that can be written says what is due by a reason, the reason names what is due
pub said_due_is_named : (why : Why) (line : LogLine) → SaysWhatIsDue why line → IsLogLineWritable line → NamesWhatIsDue why
said_due_is_named is_cut line says writable = says
said_due_is_named no_line line says writable = says
said_due_is_named out_of_order line says writable = says
said_due_is_named other_mechs line says writable = tt
said_due_is_named other_challenge line says writable = tt
said_due_is_named (other_outcome due) line says writable = tt
said_due_is_named (other_reply moment due) line says writable = (subst IsLogLineInRange says writable.ranges).1

-- an acceptance with the signature that is due may stand where it is due, and records no reply
due_ok_may_stand : (accounts : Accounts) (place : Place) (signature text : List ℕ)
    → IsReasonForAnswer accounts place (other_outcome (accepted signature)) → IsAuthentic text signature
    → (next : Place) × IsTransition (demands accounts) place (said (accepts text)) next × (told_at place (said (accepts text)) ≡ [])
due_ok_may_stand accounts (asks_bare m) signature text (inl (is, same)) bears = absurd (cc same)
due_ok_may_stand accounts (asks_bare m) signature text (inr (none, same)) bears = absurd (cc same)
due_ok_may_stand accounts (got_first m first) signature text (inl (is, same)) bears = absurd (cc same)
due_ok_may_stand accounts (got_first m first) signature text (inr (none, same)) bears = absurd (cc same)
due_ok_may_stand accounts (got_final m account first challenge last) signature text (refuse why, is, same) bears = absurd (cc same)
due_ok_may_stand accounts (got_final m account first challenge last) signature text (accept other, is, same) bears =
    let own : signature ≡ other = cc same in
    (waits_code account, ((other, is, subst (IsAuthentic text) own bears), refl), refl)
due_ok_may_stand accounts leaving signature text same bears = absurd (cc same)
due_ok_may_stand accounts place signature text wrong bears = absurd wrong

-- a reply other than the one due is never wrong for the reason that an acceptance is due
wrong_reply_names_no_outcome : (accounts : Accounts) (place : Place) (told : List AccountAttempt) (moment : ℕ) (signature : List ℕ)
    → IsReasonForReply accounts place told moment (other_outcome (accepted signature)) → ⊥
wrong_reply_names_no_outcome accounts (got_code account sent) told moment signature (due, is, same) = cc same
wrong_reply_names_no_outcome accounts place told moment signature wrong = wrong

-- if the reason names an acceptance as due, a CONT, OK or NO is due at the place, whatever line is at fault there
due_ok_shows_answer : (accounts : Accounts) (place : Place) (told : List AccountAttempt) (line : LogLine) (signature : List ℕ)
    → IsReasonForLine accounts place told line (other_outcome (accepted signature))
    → IsReasonForAnswer accounts place (other_outcome (accepted signature))
due_ok_shows_answer accounts place told (said (mechs names)) signature wrong = absurd (cc wrong)
due_ok_shows_answer accounts place told (said (cont message)) signature wrong = wrong
due_ok_shows_answer accounts place told (said (accepts message)) signature wrong = wrong
due_ok_shows_answer accounts place told (said (refuses message)) signature wrong = wrong
due_ok_shows_answer accounts place told (said (replies moment reply)) signature wrong =
    absurd (wrong_reply_names_no_outcome accounts place told moment signature wrong)
due_ok_shows_answer accounts place told line signature wrong = absurd wrong

-- the only line that says what is due may stand at the place
only_due_line_follows : (accounts : Accounts) → AllCanBeChallenged accounts
    → (place : Place) (told : List AccountAttempt) (text : List ℕ) (x : LogLine) (why : Why) (line : LogLine) → IsLogLine text x
    → IsDueAt place (class_of x) → IsReasonForLine accounts place told x why → NamesOneLine why → SaysWhatIsDue why line
    → IsLogLineWritable line
    → Follows accounts place told line
only_due_line_follows accounts fit place told text x why line is due wrong single says writable =
    let m = some_line_mends_line accounts fit place told text x why is due (said_due_is_named why line says writable) wrong in
    subst (Follows accounts place told) (one_line_says_due why m.line line single m.says says) m.follows

-- each line that says what is due, except a challenge, may stand at the place
pub each_due_line_follows : (accounts : Accounts) → AllCanBeChallenged accounts
    → (place : Place) (told : List AccountAttempt) (text : List ℕ) (x : LogLine) (why : Why) (line : LogLine) → IsLogLine text x
    → IsDueAt place (class_of x) → IsReasonForLine accounts place told x why → (why ≡ other_challenge → ⊥) → SaysWhatIsDue why line
    → IsLogLineWritable line → Follows accounts place told line
each_due_line_follows accounts fit place told text x is_cut line is due wrong other says writable = absurd says
each_due_line_follows accounts fit place told text x no_line line is due wrong other says writable = absurd says
each_due_line_follows accounts fit place told text x out_of_order line is due wrong other says writable = absurd says
each_due_line_follows accounts fit place told text x other_mechs line is due wrong other says writable =
    only_due_line_follows accounts fit place told text x other_mechs line is due wrong tt says writable
each_due_line_follows accounts fit place told text x other_challenge line is due wrong other says writable = absurd (other refl)
each_due_line_follows accounts fit place told text x (other_outcome (accepted signature)) line is due wrong other (message, bears, same)
    writable =
    let (next, goes, no_farewell) = due_ok_may_stand accounts place signature message
    (due_ok_shows_answer accounts place told x signature wrong) bears in
    subst (Follows accounts place told) (sym same)
    (record {
      next = next;
      goes = goes;
      due = subst (λ (t : List AccountAttempt). HaveDueReplies (demands accounts) (reverse told) t) (sym no_farewell) tt;
    })
each_due_line_follows accounts fit place told text x (other_outcome (refused_with message)) line is due wrong other says writable =
    only_due_line_follows accounts fit place told text x (other_outcome (refused_with message)) line is due wrong tt says writable
each_due_line_follows accounts fit place told text x (other_reply moment reply) line is due wrong other says writable =
    only_due_line_follows accounts fit place told text x (other_reply moment reply) line is due wrong tt says writable

-- the law: if fronts are what begins clean logs, each line that can be written and says what is due, except a challenge, may replace
-- the line at fault in a log of version 1
pub each_line_that_is_due_may_stand : EachLineThatIsDueMayStand
each_line_that_is_due_may_stand accounts fit bytes before text after rest why line cut w other says writable =
    let f = fault_follows_read_lines accounts bytes before text after rest why cut w in
    let x = named_reason_is_of_line accounts f.lines text why (said_due_is_named why line says writable) f.wrong in
    let l = each_due_line_follows accounts fit x.place x.told text x.line why line x.is x.due x.wrong other says writable in
    following_line_begins_clean accounts fit before f.lines f.place f.told x.place x.told line f.lead x.begins writable l
