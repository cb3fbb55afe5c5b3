use Rattle.log_grammar.proofs.lemmas.outcome_laws.PlaceMessages.{places_have_their_messages}
use Rattle.log_grammar.proofs.version_one.outcomes.places_have_their_messages.Goals as goal

pub returns : goal.returns
returns c = places_have_their_messages
