-- A line that may stand at a place instead of another is due there by the reason for the other, and the reason says so.
use Rattle.std.proofs.Common.{◌≡◌, inl, inr, ℕ, List, refl, sym, ◌∙◌, ap, subst}
use Rattle.std.specs.declared.option.Option.{Option}
use Rattle.otp_core.specs.declared.token.reply.Reply.{Reply}
use Rattle.scram_text.specs.Messages.{ServerFinalParts}
use Rattle.scram_text.proofs.lemmas.ServerFinal.{has_one_server_final}
use Rattle.scram_ends.specs.Login.{IsAuthentic}
use Rattle.scram_ends.specs.Verdict.{accept, refuse}
use Rattle.account_book.specs.AccountAttempt.{AccountAttempt}
use Rattle.log_grammar.specs.Words.{offered_names}
use Rattle.log_grammar.specs.Lines.{LogLine, said, heard, mechs, cont, accepts, refuses, replies, halt, busy}
use Rattle.log_grammar.specs.Lines.{abort, IsLogLine, IsLogLineWritable}
use Rattle.log_grammar.specs.Places.{Place, asks_bare, got_first, got_final}
use Rattle.log_grammar.specs.Places.{got_code, leaving, halted}
use Rattle.log_grammar.specs.Demands.{Accounts, demands}
use Rattle.log_grammar.specs.laws.FitAccounts.{AllCanBeChallenged}
use Rattle.log_grammar.specs.state_machine.Steps.{IsTransition}
use Rattle.log_grammar.specs.state_machine.DueClasses.{IsDueAt}
use Rattle.log_grammar.specs.Why.{Why, is_cut, no_line, out_of_order, other_mechs, other_challenge, other_outcome, other_reply, accepted}
use Rattle.log_grammar.specs.Why.{refused_with, IsReasonForAnswer, IsReasonForReply, IsReasonForLine, class_of, of_login_answers}
use Rattle.log_grammar.specs.Faults.{IsDueFor, offer_is_due, challenge_is_due, refusal_is_due, acceptance_is_due, reply_is_due}
use Rattle.log_grammar.specs.laws.Reasons.{SaysWhatIsDue, NamesWhatIsDue}
use Rattle.log_grammar.specs.laws.WholeLogs.{HasReplyInRange}
use Rattle.log_grammar.proofs.lemmas.demands.Challenges.{challenged_first_is_of_name}
use Rattle.log_grammar.proofs.lemmas.lines.Written.{halt_is_writable}
use Rattle.log_grammar.proofs.lemmas.reason_laws.Mended.{some_line_mends_line}
use Rattle.log_grammar.proofs.lemmas.reason_laws.NumberedMended.{NamesClass, due_line_has_class, wrong_answer_has_class, wrong_line_has_class}
use Rattle.log_grammar.proofs.lemmas.reason_laws.NumberedMended.{one_class}
use Rattle.log_grammar.proofs.lemmas.state_machine.Standings.{Follows}

-- a text is authentic by at most one signature
one_signature : (text one other : List ℕ) → IsAuthentic text one → IsAuthentic text other → one ≡ other
one_signature text one other a b =
    let same = has_one_server_final text a.last b.last a.is_last b.is_last in
    let verifiers = sym a.is_verifier ∙ ap (λ (p : ServerFinalParts). p.verifier_or_error) same ∙ b.is_verifier in cc verifiers

-- what is due instead of a line is of its class
pub due_has_class_of_line : (line due : LogLine) (why : Why) → IsDueFor line due why → class_of due ≡ class_of line
due_has_class_of_line line due why (offer_is_due given wanted) = refl
due_has_class_of_line line due why (challenge_is_due l message class) = sym class
due_has_class_of_line line due why (refusal_is_due l message class) = sym class
due_has_class_of_line line due why (acceptance_is_due l message signature class authentic) = sym class
due_has_class_of_line line due why (reply_is_due moment given wanted) = refl

-- what is due is never BUSY
pub due_is_not_busy : (line due : LogLine) (why : Why) → IsDueFor line due why → due ≡ said busy → ⊥
due_is_not_busy line due why (offer_is_due given wanted) e = cc e
due_is_not_busy line due why (challenge_is_due l message class) e = cc e
due_is_not_busy line due why (refusal_is_due l message class) e = cc e
due_is_not_busy line due why (acceptance_is_due l message signature class authentic) e = cc e
due_is_not_busy line due why (reply_is_due moment given wanted) e = cc e

-- if what is due can be written, and the reason names a reply, the reply is in its range
pub due_reply_is_in_range : (line due : LogLine) (why : Why) → IsDueFor line due why → IsLogLineWritable due → HasReplyInRange why
due_reply_is_in_range line due why (offer_is_due given wanted) writable = tt
due_reply_is_in_range line due why (challenge_is_due l message class) writable = tt
due_reply_is_in_range line due why (refusal_is_due l message class) writable = tt
due_reply_is_in_range line due why (acceptance_is_due l message signature class authentic) writable = tt
due_reply_is_in_range line due why (reply_is_due moment given wanted) writable = writable.ranges.1

-- if a reason names an answer to a login, a line that says what is due is due instead of any such answer
answer_is_due : (line due : LogLine) (why : Why) → class_of line ≡ of_login_answers → NamesClass why of_login_answers
    → SaysWhatIsDue why due → IsDueFor line due why
answer_is_due line due is_cut class named says = absurd named
answer_is_due line due no_line class named says = absurd named
answer_is_due line due out_of_order class named says = absurd named
answer_is_due line due other_mechs class named says = absurd (cc named)
answer_is_due line due other_challenge class named (text, same) =
    subst (λ (l : LogLine). IsDueFor line l other_challenge) (sym same) (challenge_is_due line text class)
answer_is_due line due (other_outcome (accepted signature)) class named (text, authentic, same) =
    subst (λ (l : LogLine). IsDueFor line l (other_outcome (accepted signature))) (sym same)
    (acceptance_is_due line text signature class authentic)
answer_is_due line due (other_outcome (refused_with message)) class named says =
    subst (λ (l : LogLine). IsDueFor line l (other_outcome (refused_with message))) (sym says) (refusal_is_due line message class)
answer_is_due line due (other_reply moment reply) class named says = absurd (cc named)

-- a line that says what is due by the reason for a reply is due instead of this reply
reply_line_is_due : (accounts : Accounts) (place : Place) (told : List AccountAttempt) (moment : ℕ) (given : Option Reply)
    (due : LogLine) (why : Why)
    → IsReasonForReply accounts place told moment why → SaysWhatIsDue why due → IsDueFor (said (replies moment given)) due why
reply_line_is_due accounts (got_code account sent) told moment given due why (wanted, is, same) says =
    subst (λ (w : Why). SaysWhatIsDue w due → IsDueFor (said (replies moment given)) due w) (sym same)
    (λ said_due. subst (λ (l : LogLine). IsDueFor (said (replies moment given)) l (other_reply moment wanted)) (sym said_due)
    (reply_is_due moment given wanted)) says
reply_line_is_due accounts place told moment given due why wrong says = absurd wrong

-- a line that says what is due by the reason for another line is due instead of that line
pub due_line_is_due : (accounts : Accounts) (place : Place) (told : List AccountAttempt) (line due : LogLine) (why : Why)
    → IsReasonForLine accounts place told line why → SaysWhatIsDue why due → IsDueFor line due why
due_line_is_due accounts place told (said (mechs names)) due why wrong says =
    subst (λ (w : Why). SaysWhatIsDue w due → IsDueFor (said (mechs names)) due w) (sym wrong)
    (λ said_due. subst (λ (l : LogLine). IsDueFor (said (mechs names)) l other_mechs) (sym said_due) (offer_is_due names offered_names))
    says
due_line_is_due accounts place told (said (cont message)) due why wrong says =
    answer_is_due (said (cont message)) due why refl (wrong_answer_has_class accounts place why wrong) says
due_line_is_due accounts place told (said (accepts message)) due why wrong says =
    answer_is_due (said (accepts message)) due why refl (wrong_answer_has_class accounts place why wrong) says
due_line_is_due accounts place told (said (refuses message)) due why wrong says =
    answer_is_due (said (refuses message)) due why refl (wrong_answer_has_class accounts place why wrong) says
due_line_is_due accounts place told (said (replies moment reply)) due why wrong says =
    reply_line_is_due accounts place told moment reply due why wrong says
due_line_is_due accounts place told line due why wrong says = absurd wrong

module _ (accounts : Accounts) where
  -- if a challenge may stand at a place, that is the reason for any other answer there
  challenge_shows_reason : (place next : Place) (message : List ℕ) → IsTransition (demands accounts) place (said (cont message)) next
      → IsReasonForAnswer accounts place other_challenge
  challenge_shows_reason (asks_bare m) next message goes = inl (goes.0.0, refl)
  challenge_shows_reason (got_first m first) next message (account, due, at) =
      inl ((account, challenged_first_is_of_name accounts m first account message due), refl)
  challenge_shows_reason place next message goes = absurd goes

  -- if a refusal may stand at a place, that is the reason for any other answer there
  refusal_shows_reason : (place next : Place) (message : List ℕ) → IsTransition (demands accounts) place (said (refuses message)) next
      → IsReasonForAnswer accounts place (other_outcome (refused_with message))
  refusal_shows_reason (asks_bare m) next message goes = inr (goes.0.0, ap (λ (t : List ℕ). other_outcome (refused_with t)) goes.0.1)
  refusal_shows_reason (got_first m first) next message goes =
      inr (goes.0.0, ap (λ (t : List ℕ). other_outcome (refused_with t)) goes.0.1)
  refusal_shows_reason (got_final m account first challenge last) next message goes =
      (refuse goes.0.0, goes.0.1, ap (λ (t : List ℕ). other_outcome (refused_with t)) goes.0.2)
  refusal_shows_reason leaving next message goes = ap (λ (t : List ℕ). other_outcome (refused_with t)) goes.0
  refusal_shows_reason place next message goes = absurd goes

  -- if an acceptance with a signature may stand at a place, that is the reason for any other answer there
  acceptance_shows_reason : (place next : Place) (message signature : List ℕ)
      → IsTransition (demands accounts) place (said (accepts message)) next → IsAuthentic message signature
      → IsReasonForAnswer accounts place (other_outcome (accepted signature))
  acceptance_shows_reason (got_final m account first challenge last) next message signature goes authentic = (
    accept goes.0.0,
    goes.0.1,
    ap (λ (t : List ℕ). other_outcome (accepted t)) (one_signature message signature goes.0.0 authentic goes.0.2),
  )
  acceptance_shows_reason place next message signature goes authentic = absurd goes

  -- if a reply may stand at a place, that is the reason for any other reply there at the same moment
  reply_shows_reason : (place : Place) (told : List AccountAttempt) (moment : ℕ) (due : Option Reply)
      → Follows accounts place told (said (replies moment due)) → IsReasonForReply accounts place told moment (other_reply moment due)
  reply_shows_reason (got_code account sent) told moment due f = (due, f.due.0, refl)
  reply_shows_reason place told moment due f = absurd f.goes

  -- the reason for an answer to a login is that for any line of its class
  answer_reason_is_of_line : (place : Place) (told : List AccountAttempt) (line : LogLine) (why : Why) → class_of line ≡ of_login_answers
      → IsReasonForAnswer accounts place why → IsReasonForLine accounts place told line why
  answer_reason_is_of_line place told (said (cont message)) why class wrong = wrong
  answer_reason_is_of_line place told (said (accepts message)) why class wrong = wrong
  answer_reason_is_of_line place told (said (refuses message)) why class wrong = wrong
  answer_reason_is_of_line place told (said (mechs names)) why class wrong = absurd (cc class)
  answer_reason_is_of_line place told (said (replies moment reply)) why class wrong = absurd (cc class)
  answer_reason_is_of_line place told (said halt) why class wrong = absurd (cc class)
  answer_reason_is_of_line place told (said busy) why class wrong = absurd (cc class)
  answer_reason_is_of_line place told (heard abort) why class wrong = absurd (cc class)
  answer_reason_is_of_line place told line why class wrong = absurd (cc class)

  -- if a line may stand at a place instead of another, that is the reason for the other
  pub due_line_shows_reason : (place : Place) (told : List AccountAttempt) (line due : LogLine) (why : Why) → IsDueFor line due why
      → Follows accounts place told due → IsReasonForLine accounts place told line why
  due_line_shows_reason place told line due why (offer_is_due given wanted) f = refl
  due_line_shows_reason place told line due why (challenge_is_due l message class) f =
      answer_reason_is_of_line place told l other_challenge class (challenge_shows_reason place f.next message f.goes)
  due_line_shows_reason place told line due why (refusal_is_due l message class) f =
      answer_reason_is_of_line place told l (other_outcome (refused_with message)) class (refusal_shows_reason place f.next message f.goes)
  due_line_shows_reason place told line due why (acceptance_is_due l message signature class authentic) f =
      answer_reason_is_of_line place told l (other_outcome (accepted signature)) class
      (acceptance_shows_reason place f.next message signature f.goes authentic)
  due_line_shows_reason place told line due why (reply_is_due moment given wanted) f = reply_shows_reason place told moment wanted f

-- a reason that names the class of a line, and no reply out of its range, names what is due
pub named_class_is_named_due : (why : Why) (line : LogLine) → NamesClass why (class_of line) → HasReplyInRange why → NamesWhatIsDue why
named_class_is_named_due is_cut line named range = named
named_class_is_named_due no_line line named range = named
named_class_is_named_due out_of_order line named range = named
named_class_is_named_due other_mechs line named range = tt
named_class_is_named_due other_challenge line named range = tt
named_class_is_named_due (other_outcome due) line named range = tt
named_class_is_named_due (other_reply moment due) line named range = range

-- a line of the class of another that can be written and may stand at the place
pub record HasLineOfClass (accounts : Accounts) (place : Place) (told : List AccountAttempt) (line : LogLine) : Type 0 where
  pub other : LogLine
  pub class : class_of other ≡ class_of line
  pub writable : IsLogLineWritable other
  pub follows : Follows accounts place told other

-- where a reply is due, a halt may stand
halt_may_stand : (accounts : Accounts) (place : Place) (told : List AccountAttempt) (moment : ℕ) (why : Why)
    → IsReasonForReply accounts place told moment why → Follows accounts place told (said halt)
halt_may_stand accounts (got_code account sent) told moment why wrong = record { next = halted; goes = refl; due = tt }
halt_may_stand accounts place told moment why wrong = absurd wrong

-- a reason that names an answer to a login names what is due
named_answer_is_named_due : (why : Why) → NamesClass why of_login_answers → NamesWhatIsDue why
named_answer_is_named_due is_cut named = named
named_answer_is_named_due no_line named = named
named_answer_is_named_due out_of_order named = named
named_answer_is_named_due other_mechs named = tt
named_answer_is_named_due other_challenge named = tt
named_answer_is_named_due (other_outcome due) named = tt
named_answer_is_named_due (other_reply moment due) named = absurd (cc named)

-- if the reason for a line names what is due, some line of its class mends it
mended_line_follows : (accounts : Accounts) → AllCanBeChallenged accounts → (place : Place) (told : List AccountAttempt)
    (text : List ℕ) (line : LogLine) (why : Why) → IsLogLine text line → IsDueAt place (class_of line) → NamesWhatIsDue why
    → IsReasonForLine accounts place told line why → HasLineOfClass accounts place told line
mended_line_follows accounts fit place told text line why is due named wrong =
    let m = some_line_mends_line accounts fit place told text line why is due named wrong in
    record {
      other = m.line;
      class = one_class why (class_of m.line) (class_of line) (due_line_has_class why m.line m.says)
          (wrong_line_has_class accounts place told line why wrong);
      writable = m.writable;
      follows = m.follows;
    }

-- if a line is at fault where its class is due, some line of its class may stand there
pub some_line_of_class_follows : (accounts : Accounts) → AllCanBeChallenged accounts → (place : Place) (told : List AccountAttempt)
    (text : List ℕ) (line : LogLine) (why : Why) → IsLogLine text line → IsDueAt place (class_of line)
    → IsReasonForLine accounts place told line why → HasLineOfClass accounts place told line
some_line_of_class_follows accounts fit place told text (said (replies moment reply)) why is due wrong =
    record { other = said halt; class = refl; writable = halt_is_writable; follows = halt_may_stand accounts place told moment why wrong }
some_line_of_class_follows accounts fit place told text (said (mechs names)) why is due wrong =
    mended_line_follows accounts fit place told text (said (mechs names)) why is due (subst NamesWhatIsDue (sym wrong) tt) wrong
some_line_of_class_follows accounts fit place told text (said (cont message)) why is due wrong =
    mended_line_follows accounts fit place told text (said (cont message)) why is due
    (named_answer_is_named_due why (wrong_answer_has_class accounts place why wrong)) wrong
some_line_of_class_follows accounts fit place told text (said (accepts message)) why is due wrong =
    mended_line_follows accounts fit place told text (said (accepts message)) why is due
    (named_answer_is_named_due why (wrong_answer_has_class accounts place why wrong)) wrong
some_line_of_class_follows accounts fit place told text (said (refuses message)) why is due wrong =
    mended_line_follows accounts fit place told text (said (refuses message)) why is due
    (named_answer_is_named_due why (wrong_answer_has_class accounts place why wrong)) wrong
some_line_of_class_follows accounts fit place told text line why is due wrong = absurd wrong
