use Rattle.std.proofs.Common.{refl}
use Rattle.scram_ends.specs.Opening.{Opening}
use Rattle.scram_ends.specs.Stateless.{login_of_parts}
use Rattle.scram_ends.specs.Verdict.{due_of}
use Rattle.scram_ends.proofs.lemmas.DueMessages.{accepted_iff_valid}
use Rattle.scram_ends.proofs.lemmas.Opening.{refused_is_not_taken_up}
use Rattle.scram_ends.proofs.lemmas.Stateless.{answered_opens, opening_is_answered}
use Rattle.scram_ends.proofs.stateless.judge_login.Goals as goal

pub returns-in_err-first-clause-every : goal.returns-in_err-first-clause-every
returns-in_err-first-clause-every g c = λ held opening opens.
    absurd (refused_is_not_taken_up c.args.client_first.now _ opening.first opening.name opening.authzid c.in_err-first.ensures.err
    opens.is_first opens.taken_up)

pub returns-in-Some-clause-opens : goal.returns-in-Some-clause-opens
returns-in-Some-clause-opens g c = λ held.
    let names = g.N.OtherNames.names c.args.entry.now.others in
    let first = c.in_ok-first.ensures.ok in
    let found = c.in-Some.ensures.some in
    let opening : Opening = record { first = first.0; name = first.1; authzid = first.2; challenge = found.0 } in (
      opening,
      answered_opens c.args.entry.now names held c.args.client_first.now c.args.server_first.now c.in_ok-first.first first.0 first.1 first.2
          found.0 first.3 first.4 first.5 found.1,
    )

pub returns-in-Some-clause-due : goal.returns-in-Some-clause-due
returns-in-Some-clause-due g c = λ held stand.
    let names = g.N.OtherNames.names c.args.entry.now.others in
    let first = c.in_ok-first.ensures.ok in
    let found = c.in-Some.ensures.some in
    let opening : Opening = record { first = first.0; name = first.1; authzid = first.2; challenge = found.0 } in
    let login = login_of_parts c.args.entry.now names held c.args.client_first.now c.args.server_first.now in
    c.verdict_on.ensures login opening
    (record {
      mechanism = refl;
      keys = stand;
      act_as = refl;
      shows = first.4;
      taken_up = first.5;
      sent = found.2;
      challenge = refl;
    })
    (answered_opens c.args.entry.now names held c.args.client_first.now c.args.server_first.now c.in_ok-first.first first.0 first.1 first.2
    found.0 first.3 first.4 first.5 found.1)

pub returns-in-Some-clause-valid : goal.returns-in-Some-clause-valid
returns-in-Some-clause-valid g c = λ held stand.
    let names = g.N.OtherNames.names c.args.entry.now.others in
    let first = c.in_ok-first.ensures.ok in
    let found = c.in-Some.ensures.some in
    let opening : Opening = record { first = first.0; name = first.1; authzid = first.2; challenge = found.0 } in
    let login = login_of_parts c.args.entry.now names held c.args.client_first.now c.args.server_first.now in
    accepted_iff_valid login c.args.client_final.now (due_of c.verdict_on.result) (c.verdict_on.ensures login opening
    (record {
      mechanism = refl;
      keys = stand;
      act_as = refl;
      shows = first.4;
      taken_up = first.5;
      sent = found.2;
      challenge = refl;
    })
    (answered_opens c.args.entry.now names held c.args.client_first.now c.args.server_first.now c.in_ok-first.first first.0 first.1 first.2
    found.0 first.3 first.4 first.5 found.1))

pub returns-in-None-clause-every : goal.returns-in-None-clause-every
returns-in-None-clause-every g c = λ held opening opens.
    let names = g.N.OtherNames.names c.args.entry.now.others in
    let first = c.in_ok-first.ensures.ok in
    absurd (c.in-None.ensures.none opening.challenge
    (opening_is_answered c.args.entry.now names held c.args.client_first.now c.args.server_first.now c.in_ok-first.first first.0 opening
    first.3 first.4 opens))

pub returns-in-None-clause-err : goal.returns-in-None-clause-err
returns-in-None-clause-err g c = λ held.
    let names = g.N.OtherNames.names c.args.entry.now.others in
    let first = c.in_ok-first.ensures.ok in (
      (first.0, first.1, first.2, first.3, first.5),
      λ opening opens. c.in-None.ensures.none opening.challenge
          (opening_is_answered c.args.entry.now names held c.args.client_first.now c.args.server_first.now c.in_ok-first.first first.0
          opening first.3 first.4 opens),
    )
