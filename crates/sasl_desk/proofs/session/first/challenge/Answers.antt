use Rattle.std.proofs.Common.{◌≡◌, ℕ, List, [], ◌∷◌, ◌++◌, sym, ◌∙◌, ap, subst}
use Rattle.scram_ends.specs.Entry.{entry_of}
use Rattle.log_grammar.specs.Lines.{said, cont}
use Rattle.log_grammar.specs.Places.{got_first}
use Rattle.sasl_desk.specs.Sessions.{CanBeWritten}
use Rattle.sasl_desk.proofs.lemmas.turns.DueAnswers.{taken_first_opens_login, refused_first_opens_no_login, challenge_is_due}
use Rattle.sasl_desk.proofs.lemmas.turns.Writable.{server_first_is_writable}
use Rattle.sasl_desk.proofs.session.first.challenge.Goals as goal

pub new-requires : goal.new-requires
new-requires g c =
    let (server_first, written, shows, stands) = c.in-Ok.ensures.ok in
    (entry_of c.view-view.result, c.args.client_first.now, server_first, stands)

pub returns-in-Ok-clause-due : goal.returns-in-Ok-clause-due
returns-in-Ok-clause-due g c = λ accounts name keeps named.
    let m = c.args.mechanism in
    let user = c.args.name in
    let first = c.args.client_first.now in
    let (parts, authzid, is, taken) = c.requires.taken in
    let (server_first, written, shows, stands) = c.in-Ok.ensures.ok in
    let entry = c.view-view.ensures.entry ∙ keeps m user in
    let message : c.server_first.new.out.items ≡ server_first = written ∙ ap (λ (t : List ℕ). t ++ server_first) c.requires.empty in
    rw c.new.ensures
    (challenge_is_due accounts c.args.server_nonce.now c.in-Ok.wait m name user
    first server_first
    c.server_first.new.out.items (entry_of c.view-view.result) entry message named
    (taken_first_opens_login name first user m parts authzid named is taken) shows stands)

pub returns-in-Ok-clause-lines : goal.returns-in-Ok-clause-lines
returns-in-Ok-clause-lines g c =
    let (server_first, written, shows, stands) = c.in-Ok.ensures.ok in
    let message : c.server_first.new.out.items ≡ server_first = written ∙ ap (λ (t : List ℕ). t ++ server_first) c.requires.empty in
    subst (λ (t : List ℕ). CanBeWritten (said (cont t) ∷ [])) (sym message) (server_first_is_writable server_first _ shows.is_challenge)

pub returns-in-Err-First-clause-due : goal.returns-in-Err-First-clause-due
returns-in-Err-First-clause-due g c = λ accounts name keeps named.
    let first = c.args.client_first.now in
    let refused = c.in-Err-First.ensures.first _ c.in-Err-First.field-0-is in
    rw (c.in-Err-First.ensures.leaves.0, c.requires.empty)
    (c.bare_no.ensures.due accounts c.args.server_nonce.now (got_first name first)
    (refused_first_opens_no_login name first _ refused))
