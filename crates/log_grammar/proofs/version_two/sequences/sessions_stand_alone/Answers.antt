use Rattle.log_grammar.specs.Demands.{demands}
use Rattle.log_grammar.proofs.lemmas.state_machine.PlaceBefore.{challenge_has_one_account}
use Rattle.log_grammar.proofs.lemmas.many_sessions.OwnPlaces.{numbers_share_place}
use Rattle.log_grammar.proofs.version_two.sequences.sessions_stand_alone.Goals as goal

pub returns : goal.returns
returns c = λ limit accounts log other places others told also s r n m same.
    let one = challenge_has_one_account accounts in
    numbers_share_place limit (demands accounts) one log other places others told also s r n m same
