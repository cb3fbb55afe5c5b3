-- Valid logins that a log has as refused, and codes after them that it has answered by another reply.
use Rattle.std.proofs.Common.{inr, [], refl}
use Rattle.scram_ends.specs.Verdict.{accept, refuse}
use Rattle.log_grammar.specs.Lines.{header_one, said, refuses, replies, log_line_text}
use Rattle.log_grammar.specs.Places.{got_final, got_code}
use Rattle.log_grammar.specs.Why.{other_outcome, other_reply, accepted, of_login_answers, of_replies}
use Rattle.log_grammar.specs.laws.Logins.{RefusedLoginsAreAtFault, OtherRepliesAreAtFault, original_bytes}
use Rattle.log_grammar.proofs.lemmas.state_machine.DueClasses.{classes_follow_the_place}
use Rattle.log_grammar.proofs.lemmas.kinds.OneWhy.{one_due_verdict, one_due_reply}
use Rattle.log_grammar.proofs.lemmas.lines.LackLf.{lines_lack_lf, reply_is_writable}
use Rattle.log_grammar.proofs.lemmas.kinds.ShownByLines.{last_line_is_at_fault}
use Rattle.log_grammar.proofs.lemmas.login_laws.ValidLogins.{valid_login_is_granted}
use Rattle.log_grammar.proofs.lemmas.login_laws.CleanLogins.{tried_login_was_read, login_with_code_was_read}

-- the law: a valid login that a log of version 1 has as refused is at fault at the `S NO`, and the reason names the acceptance due
pub refused_logins_are_at_fault : RefusedLoginsAreAtFault original_bytes
refused_logins_are_at_fault accounts mechanism name exchange message l is =
    let (signature, due, authentic) = valid_login_is_granted accounts mechanism name exchange l in
    let lead = tried_login_was_read accounts mechanism name exchange l in
    let at = got_final mechanism name exchange.client_first exchange.server_first exchange.client_final in
    let line = said (refuses message) in (
      signature,
      authentic,
      last_line_is_at_fault accounts _ header_one _ at [] (log_line_text line) line
          (other_outcome (accepted signature)) lead is
          (lines_lack_lf (log_line_text line) line is)
          (λ f.
          let wrong = one_due_verdict accounts mechanism name exchange.client_first exchange.server_first
          exchange.client_final (accept signature) (refuse f.goes.0.0) due f.goes.0.1 in cc wrong)
          (inr (
            (classes_follow_the_place accounts _ at [] of_login_answers lead.begins).1 refl,
            at,
            [],
            lead.begins,
            (accept signature, due, refl),
          )),
    )

-- the law: a code after a valid login is at fault if a log of version 1 has another reply than the one due, which the reason names
pub other_replies_are_at_fault : OtherRepliesAreAtFault original_bytes
other_replies_are_at_fault accounts mechanism name exchange sent moment reply due l is at range by other =
    let lead = login_with_code_was_read accounts mechanism name exchange sent l is in
    let place = got_code name sent in
    let line = said (replies moment reply) in
    let spelled = reply_is_writable moment reply at range in
    last_line_is_at_fault accounts _ header_one _ place [] (log_line_text line) line (other_reply moment due) lead
    spelled
    (lines_lack_lf (log_line_text line) line spelled)
    (λ f. other (one_due_reply (accounts.token name) [] moment sent reply due f.due.0 by))
    (inr ((classes_follow_the_place accounts _ place [] of_replies lead.begins).1 refl, place, [], lead.begins, (due, by, refl)))
