-- What the log of a run records: one offer of mechanisms for each client that was greeted, and one line for each thing that a
-- client did.
use Rattle.std.specs.Prelude.{◌≡◌, ◌⊎◌, Bool, true, false, List, [], ◌∷◌, ◌++◌, filter, count_by}
use Rattle.log_grammar.specs.Lines.{LogLine, heard, bad, gone}
use Rattle.log_grammar.specs.Counts.{is_mechs}
use Rattle.log_grammar.specs.Places.{Place}
use Rattle.log_grammar.specs.Demands.{Accounts}
use Rattle.sasl_desk.specs.Sessions.{IsRecord}
use Rattle.sasl_desk.specs.Halls.{IsTurnedAway}
use Rattle.sasl_desk.specs.Runs.{Request, greets, hears, Call, run_lines, IsRun}

-- the line records what a client did: one of its lines, `C BAD` or `C GONE`
abbrev pub is_client_record : LogLine → Bool
is_client_record (heard line) = true
is_client_record bad = true
is_client_record gone = true
is_client_record line = false

-- the request greets a client
abbrev pub greets_client : Request → Bool
greets_client (greets server_nonce) = true
greets_client (hears event moment) = false

-- what a request adds to the records, after these calls: a greeting adds none; what a client does adds its record, at the place where
-- the log stands
abbrev pub IsRecordedAs : Accounts → (before : List Call) → Request → (added : List LogLine) → Type 0
IsRecordedAs accounts before (greets server_nonce) added = added ≡ []
IsRecordedAs accounts before (hears event moment) added =
    (place : Place) × (kept : LogLine) × IsRun accounts before place × IsRecord event place kept × (added ≡ kept ∷ [])

-- the lines are the records of what clients did in these calls, in the order in which it was done: the latest call, which comes
-- first, has the last record
abbrev pub AreRecords : Accounts → List Call → List LogLine → Type 0
AreRecords accounts [] records = records ≡ []
AreRecords accounts (call ∷ before) records =
    (earlier : List LogLine) × (added : List LogLine) × AreRecords accounts before earlier
    × IsRecordedAs accounts before call.request added × (records ≡ earlier ++ added)

-- the log of these calls has one offer for each greeting, and its records are those of what clients did: nothing that a client did is
-- left out, and nothing is invented
pub record HasItsRecords (accounts : Accounts) (calls : List Call) : Type 0 where
  pub offers : count_by is_mechs (run_lines calls) ≡ count_by (λ call. greets_client call.request) calls
  pub records : AreRecords accounts calls (filter is_client_record (run_lines calls))

-- the records of a session of a hall: as at a desk; or it was turned away
abbrev pub HasSessionRecords : Accounts → List Call → Type 0
HasSessionRecords accounts calls = HasItsRecords accounts calls ⊎ IsTurnedAway calls
