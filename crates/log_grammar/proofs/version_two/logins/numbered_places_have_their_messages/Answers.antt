use Rattle.log_grammar.proofs.lemmas.login_laws.NumberedLogins.{numbered_places_have_their_messages}
use Rattle.log_grammar.proofs.version_two.logins.numbered_places_have_their_messages.Goals as goal

pub returns : goal.returns
returns c = numbered_places_have_their_messages
