-- The log of a run records what its clients did, and nothing else.
use Rattle.std.proofs.Common.{◌≡◌, ℕ, true, false, List, [], ◌∷◌, filter, count_by, cond, ◌+◌, refl, ◌∙◌, ap, arith}
use Rattle.std.specs.List.{AllByRecursion}
use Rattle.std.proofs.lemmas.List.Elements.{filter-append}
use Rattle.std.proofs.lemmas.List.Sums.{sum_by-append}
use Rattle.account_book.specs.Store.{StoreFacts}
use Rattle.account_book.specs.{BookFields}
use Rattle.log_grammar.specs.Books.{accounts_in}
use Rattle.log_grammar.specs.Lines.{LogLine, header_one, header_two, said, heard, bad, gone, ended, mechs}
use Rattle.log_grammar.specs.Places.{Place}
use Rattle.log_grammar.specs.Demands.{Accounts}
use Rattle.log_grammar.specs.Counts.{is_mechs}
use Rattle.sasl_desk.specs.Events.{ClientEvent, sends, goes_away}
use Rattle.sasl_desk.specs.Sessions.{IsRecord}
use Rattle.sasl_desk.specs.Runs.{Request, greets, hears, Call, run_lines, server_nonce_of, IsAnswerLine, IsTurnTaken, IsAnsweredBy, IsRun}
use Rattle.sasl_desk.specs.Desks.{IsDeskAfter}
use Rattle.sasl_desk.specs.Records.{is_client_record, greets_client, IsRecordedAs, AreRecords, HasItsRecords}
use Rattle.sasl_desk.specs.declared.desk.Desk.{Desk}

-- what answers a client records nothing
answer_records_nothing : (lines : List LogLine) → AllByRecursion IsAnswerLine lines → filter is_client_record lines ≡ []
answer_records_nothing [] all = refl
answer_records_nothing (said line ∷ lines) all = answer_records_nothing lines all.1
answer_records_nothing (ended ∷ lines) all = answer_records_nothing lines all.1
answer_records_nothing (header_one ∷ lines) all = absurd all.0
answer_records_nothing (header_two ∷ lines) all = absurd all.0
answer_records_nothing (heard line ∷ lines) all = absurd all.0
answer_records_nothing (bad ∷ lines) all = absurd all.0
answer_records_nothing (gone ∷ lines) all = absurd all.0

-- what answers a client offers nothing
answer_offers_nothing : (lines : List LogLine) → AllByRecursion IsAnswerLine lines → count_by is_mechs lines ≡ 0
answer_offers_nothing [] all = refl
answer_offers_nothing (said (mechs names) ∷ lines) all = absurd all.0
answer_offers_nothing (said line ∷ lines) all = answer_offers_nothing lines all.1
answer_offers_nothing (ended ∷ lines) all = answer_offers_nothing lines all.1
answer_offers_nothing (header_one ∷ lines) all = absurd all.0
answer_offers_nothing (header_two ∷ lines) all = absurd all.0
answer_offers_nothing (heard line ∷ lines) all = absurd all.0
answer_offers_nothing (bad ∷ lines) all = absurd all.0
answer_offers_nothing (gone ∷ lines) all = absurd all.0

-- the line that records an event is a record
record_counts_as_record : (event : ClientEvent) (at : Place) (kept : LogLine) → IsRecord event at kept → is_client_record kept ≡ true
record_counts_as_record (sends text) at (heard line) is = refl
record_counts_as_record (sends text) at bad is = refl
record_counts_as_record (sends text) at kept is = absurd is
record_counts_as_record goes_away at gone is = refl
record_counts_as_record goes_away at kept is = absurd is

-- a line that records what a client did is no offer
record_is_no_offer : (line : LogLine) → is_client_record line ≡ true → is_mechs line ≡ false
record_is_no_offer (said line) is = absurd (cc is)
record_is_no_offer line is = refl

-- the lines of a turn have one record, the event's
turn_has_one_record : (accounts : Accounts) (server_nonce : List ℕ) (event : ClientEvent) (moment : ℕ) (at : Place) (lines : List LogLine)
    (next : Place)
    (t : IsTurnTaken accounts server_nonce event moment at lines next) → filter is_client_record lines ≡ t.recorded ∷ []
turn_has_one_record accounts server_nonce event moment at lines next t =
    ap (filter is_client_record) t.lines_are
    ∙ rw (record_counts_as_record event at t.recorded t.is_record) (ap (λ (l : List LogLine). t.recorded ∷ l)
    (answer_records_nothing t.answered t.answers))

-- the lines of a call have one offer if it is a greeting, and else none
call_offers_if_it_greets : (accounts : Accounts) (server_nonce : List ℕ) (request : Request) (at : Place) (lines : List LogLine)
    (next : Place) → IsAnsweredBy accounts server_nonce request at lines next
    → count_by is_mechs lines ≡ cond (greets_client request) 1 0
call_offers_if_it_greets accounts server_nonce (greets new) at lines next answered = ap (count_by is_mechs) answered.says
call_offers_if_it_greets accounts server_nonce (hears event moment) at lines next turn =
    ap (count_by is_mechs) turn.lines_are
    ∙ rw (record_is_no_offer turn.recorded (record_counts_as_record event at turn.recorded turn.is_record))
    (answer_offers_nothing turn.answered turn.answers)

-- the records in the lines of a call are what its request adds
call_adds_its_record : (accounts : Accounts) (before : List Call) (request : Request) (at : Place) (lines : List LogLine) (next : Place)
    → IsRun accounts before at → IsAnsweredBy accounts (server_nonce_of before) request at lines next
    → IsRecordedAs accounts before request (filter is_client_record lines)
call_adds_its_record accounts before (greets new) at lines next run answered = ap (filter is_client_record) answered.says
call_adds_its_record accounts before (hears event moment) at lines next run turn =
    (at, turn.recorded, run, turn.is_record, turn_has_one_record accounts (server_nonce_of before) event moment at lines next turn)

-- the log of a run has as many offers of mechanisms as clients were greeted
pub run_has_its_offers : (accounts : Accounts) (calls : List Call) (at : Place) → IsRun accounts calls at
    → count_by is_mechs (run_lines calls) ≡ count_by (λ call. greets_client call.request) calls
run_has_its_offers accounts [] at run = refl
run_has_its_offers accounts (c ∷ before) at (place, run, answered) =
    let earlier = run_has_its_offers accounts before place run in
    let added = call_offers_if_it_greets accounts (server_nonce_of before) c.request place c.lines at answered in
    let lines : count_by is_mechs (run_lines (c ∷ before)) ≡ count_by is_mechs (run_lines before) + count_by is_mechs c.lines =
    sum_by-append (λ (l : LogLine). cond (is_mechs l) 1 0) (run_lines before) c.lines in
    let calls : count_by (λ (call : Call). greets_client call.request) (c ∷ before)
    ≡ (0 + cond (greets_client c.request) 1 0) + count_by (λ (call : Call). greets_client call.request) before =
    sum_by-append (λ (call : Call). cond (greets_client call.request) 1 0) (c ∷ []) before in
    omega (arith, lines, calls, earlier, added)

-- the records in the log of a run are those of what clients did in its calls, in their order
pub run_has_its_records : (accounts : Accounts) (calls : List Call) (at : Place) → IsRun accounts calls at
    → AreRecords accounts calls (filter is_client_record (run_lines calls))
run_has_its_records accounts [] at run = refl
run_has_its_records accounts (c ∷ before) at (place, run, answered) = (
  filter is_client_record (run_lines before),
  filter is_client_record c.lines,
  run_has_its_records accounts before place run,
  call_adds_its_record accounts before c.request place c.lines at run answered,
  filter-append is_client_record (run_lines before) c.lines,
)

-- the law: the log of a desk has one offer for each greeting and one record for each thing that a client did, and no others
pub log_has_its_records : {S : Type 0} {facts : S → StoreFacts} {IsStored : List ℕ → Type 0} {start : BookFields} {calls : List Call}
    {desk : Desk S} → IsDeskAfter facts IsStored start calls desk → HasItsRecords (accounts_in start) calls
log_has_its_records {start = start} {calls = calls} s = record {
  offers = run_has_its_offers (accounts_in start) calls s.place s.is_run;
  records = run_has_its_records (accounts_in start) calls s.place s.is_run;
}
