use Rattle.log_grammar.specs.Demands.{demands}
use Rattle.log_grammar.proofs.lemmas.state_machine.PlaceBefore.{challenge_has_one_account}
use Rattle.log_grammar.proofs.lemmas.many_sessions.OneReading.{numbered_lines_have_one_reading}
use Rattle.log_grammar.proofs.version_two.sequences.has_one_numbered_reading.Goals as goal

pub returns : goal.returns
returns c = λ limit accounts log places others told also s r.
    let one = challenge_has_one_account accounts in
    numbered_lines_have_one_reading limit (demands accounts) one log places others told also s r
