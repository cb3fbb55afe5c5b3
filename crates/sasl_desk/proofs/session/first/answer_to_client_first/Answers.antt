use Rattle.log_grammar.specs.Places.{got_first}
use Rattle.sasl_desk.proofs.lemmas.turns.DueAnswers.{refused_first_opens_no_login}
use Rattle.sasl_desk.proofs.session.first.answer_to_client_first.Goals as goal

pub returns-in-Ok-clause-due : goal.returns-in-Ok-clause-due
returns-in-Ok-clause-due g c = rw (c.as_slice-text.ensures.value, c.in_ok-bytes.ensures.ok) at c.challenge.ensures.due

pub returns-clause-due : goal.returns-clause-due
returns-clause-due g c = λ accounts name keeps named.
    let first = c.args.client_first.now in
    rw c.requires
    (c.bare_no.ensures.due accounts c.args.server_nonce.now (got_first name first)
    (refused_first_opens_no_login name first c.in-Err.field-0
    (rw (c.as_slice-text.ensures.value, c.in_ok-bytes.ensures.ok) at c.in-Err.ensures.err)))
