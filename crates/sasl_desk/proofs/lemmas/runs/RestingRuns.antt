-- After each call, and so after a run, the server has nothing left to say.
use Rattle.std.proofs.Common.{ℕ, List, [], ◌∷◌, refl}
use Rattle.log_grammar.specs.Lines.{LogLine}
use Rattle.log_grammar.specs.Places.{Place, ending}
use Rattle.log_grammar.specs.Demands.{Accounts}
use Rattle.sasl_desk.specs.Runs.{Request, greets, hears, Call, IsAtRest, IsAnsweredBy, IsRun, server_nonce_of}

-- after a call with its answer, nothing is left to be said at the place
answered_call_rests : (accounts : Accounts) (server_nonce : List ℕ) (request : Request) (place at : Place) (lines : List LogLine)
    → IsAnsweredBy accounts server_nonce request place lines at
    → IsAtRest at
answered_call_rests accounts server_nonce (greets new) place at lines greeting = rw greeting.waits (ending, refl)
answered_call_rests accounts server_nonce (hears event moment) place at lines turn = turn.rests

-- after a run, nothing is left to be said at the place
pub run_rests : (accounts : Accounts) (calls : List Call) (at : Place) → IsRun accounts calls at → IsAtRest at
run_rests accounts [] at run = rw run tt
run_rests accounts (c ∷ calls) at (place, run, answered) =
    answered_call_rests accounts (server_nonce_of calls) c.request place at c.lines answered
