use Rattle.log_grammar.specs.Places.{got_first}
use Rattle.sasl_desk.proofs.lemmas.turns.DueAnswers.{unoffered_opens_no_login}
use Rattle.sasl_desk.proofs.session.first.answer_to_auth_with_message.Goals as goal

pub returns-in-None-clause-due : goal.returns-in-None-clause-due
returns-in-None-clause-due g c = λ accounts keeps.
    let first = c.args.client_first.now in
    rw c.requires
    (c.bare_no.ensures.due accounts c.args.server_nonce.now (got_first c.args.mechanism_name.now first)
    (unoffered_opens_no_login c.args.mechanism_name.now first c.in-None.ensures.none))
