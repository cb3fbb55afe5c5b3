use Rattle.log_grammar.specs.Books.{accounts_in}
use Rattle.sasl_desk.specs.Runs.{server_nonce_of}
use Rattle.sasl_desk.proofs.lemmas.halls.Phases.{desk_phase_fits_place}
use Rattle.sasl_desk.proofs.laws.phases_are_those_of_places.Goals as goal

pub returns : goal.returns
returns g c = λ start calls desk s. desk_phase_fits_place (accounts_in start) (server_nonce_of calls) s.place desk.state s.is_state
