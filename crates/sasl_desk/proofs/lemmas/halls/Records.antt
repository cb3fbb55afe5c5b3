-- The calls of each number have their records.
use Rattle.std.proofs.Common.{inl, inr, ℕ, List}
use Rattle.account_book.specs.{BookFields}
use Rattle.account_book.specs.Store.{StoreFacts}
use Rattle.log_grammar.specs.Books.{accounts_in}
use Rattle.log_grammar.specs.Places.{Place}
use Rattle.log_grammar.specs.Demands.{Accounts}
use Rattle.log_grammar.specs.Numbered.{Numbered, of_number}
use Rattle.sasl_desk.specs.Halls.{HallFields, IsSessionRun, IsHallAfter}
use Rattle.sasl_desk.specs.Records.{HasSessionRecords}
use Rattle.sasl_desk.specs.Runs.{Call}
use Rattle.sasl_desk.proofs.lemmas.runs.Records.{run_has_its_offers, run_has_its_records}

-- the calls of a session, let in or turned away, have their records
session_run_has_its_records : (accounts : Accounts) (calls : List Call) (at : Place) → IsSessionRun accounts calls at
    → HasSessionRecords accounts calls
session_run_has_its_records accounts calls at (inl run) = inl
    (record { offers = run_has_its_offers accounts calls at run; records = run_has_its_records accounts calls at run })
session_run_has_its_records accounts calls at (inr (turned, is)) = inr turned

-- the law: the calls of each number have their records, as at a desk; or its session was turned away and asked nothing more
pub sessions_have_their_records : {S : Type 0} {facts : S → StoreFacts} {IsStored : List ℕ → Type 0} {start : BookFields}
    {calls : List (Numbered Call)} {hall : HallFields S} → IsHallAfter facts IsStored start calls hall
    → (n : ℕ) → HasSessionRecords (accounts_in start) (of_number n calls)
sessions_have_their_records {start = start} {calls = calls} s n =
    session_run_has_its_records (accounts_in start) (of_number n calls) (s.places n) (s.session_runs n)
