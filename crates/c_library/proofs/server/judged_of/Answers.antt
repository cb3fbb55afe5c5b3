use Rattle.std.proofs.Common.{inl, [], ◌∷◌, sym, subst, refl}
use Rattle.scram_ends.specs.Stages.{Challenged}
use Rattle.scram_ends.specs.Faults.{recorded_fault_number}
use Rattle.scram_ends.specs.Verdict.{IsDue, due_of}
use Rattle.scram_ends.specs.Stateless.{entry_of_parts}
use Rattle.c_library.specs.Entries.{entry_demands, entry_in, keys_in}
use Rattle.c_library.specs.Logins.{opens, texts_in}
use Rattle.c_library.proofs.lemmas.Demands.{both_are_met, fault_after_met}
use Rattle.c_library.proofs.lemmas.Parts.{plain_keys_stand, logins_are_same, opening_of_other, recorded_fault_of_other}
use Rattle.c_library.proofs.server.judged_of.Goals as goal

pub returns-in-Ok-clause-met : goal.returns-in-Ok-clause-met
returns-in-Ok-clause-met c =
    let e = c.args.entry.now in
    let keys = keys_in e in
    let names = texts_in c.parts-parts.result.others.list.now in
    let opened = c.in-Ok.ensures.opens keys in
    both_are_met (entry_demands c.args.mechanism e) (opens e c.args.client_first.now c.args.server_first.now ∷ []) c.in_default.ensures.met (
      (
        opened.0,
        opening_of_other (entry_of_parts c.parts-parts.result names keys) (entry_in e []) c.args.client_first.now
            c.args.server_first.now opened.0 c.parts-parts.ensures.salt c.parts-parts.ensures.count opened.1,
      ),
      tt,
    )

pub returns-in-Ok-clause-due : goal.returns-in-Ok-clause-due
returns-in-Ok-clause-due c =
    let e = c.args.entry.now in
    let keys = keys_in e in
    let parts = c.parts-parts.result in
    let same = logins_are_same parts.mechanism c.args.mechanism parts.salt.now _ parts.count e.count keys (texts_in parts.others.list.now)
    (texts_in c.args.act_as.now) c.args.client_first.now c.args.server_first.now c.parts-parts.ensures.mechanism c.parts-parts.ensures.salt
    c.parts-parts.ensures.count (rw c.parts-parts.ensures.others refl) in
    subst (λ (l : Challenged). IsDue l c.args.client_final.now (due_of c.in-Ok.judged)) same
    (c.in-Ok.ensures.due keys (plain_keys_stand parts.keys parts.mechanism keys c.parts-parts.ensures.keys))

pub returns-in-Err-judge_login-clause-fault : goal.returns-in-Err-judge_login-clause-fault
returns-in-Err-judge_login-clause-fault c =
    let e = c.args.entry.now in
    let keys = keys_in e in
    let names = texts_in c.parts-parts.result.others.list.now in
    let client_first = c.args.client_first.now in
    let server_first = c.args.server_first.now in
    let fault = c.in-Err-judge_login.fault in
    let is = recorded_fault_of_other (entry_of_parts c.parts-parts.result names keys) (entry_in e []) client_first server_first fault
    (sym c.parts-parts.ensures.salt) (sym c.parts-parts.ensures.count) (c.in-Err-judge_login.ensures.err keys) in
    fault_after_met (entry_demands c.args.mechanism e) (opens e client_first server_first ∷ []) (recorded_fault_number fault)
    c.in_default.ensures.met (inl (fault, refl, is))
