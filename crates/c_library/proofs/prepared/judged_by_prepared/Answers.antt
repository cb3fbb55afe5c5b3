use Rattle.std.proofs.Common.{◌≡◌, inl, [], ◌∷◌, sym, ◌∙◌, subst, refl}
use Rattle.mac_core.specs.declared.mechanism.Mechanism.{Mechanism}
use Rattle.scram_ends.specs.Stages.{Challenged}
use Rattle.scram_ends.specs.Faults.{recorded_fault_number}
use Rattle.scram_ends.specs.Verdict.{IsDue, due_of}
use Rattle.scram_ends.specs.Stateless.{entry_of_parts}
use Rattle.c_library.specs.Entries.{entry_demands, entry_in, keys_in}
use Rattle.c_library.specs.Logins.{opens, texts_in}
use Rattle.c_library.specs.Prepared.{ArePreparedFor}
use Rattle.c_library.proofs.lemmas.Demands.{both_are_met, fault_after_met}
use Rattle.c_library.proofs.lemmas.Parts.{logins_are_same, opening_of_other, recorded_fault_of_other}
use Rattle.c_library.proofs.lemmas.Prepared.{has_prepared_keys, prepared_keys_stand}
use Rattle.c_library.proofs.prepared.judged_by_prepared.Goals as goal

pub returns-in-Ok-clause-met : goal.returns-in-Ok-clause-met
returns-in-Ok-clause-met c =
    let e = c.args.entry.now in
    let keys = keys_in e in
    let parts = c.prepared_parts-parts.result in
    let names = texts_in parts.others.list.now in
    let opened = c.in-Ok.ensures.opens keys in
    let client_first = c.args.client_first.now in
    let server_first = c.args.server_first.now in
    both_are_met (entry_demands c.args.mechanism e) (opens e client_first server_first ∷ []) c.in_default.ensures.met (
      (
        opened.0,
        opening_of_other (entry_of_parts parts names keys) (entry_in e []) client_first server_first opened.0
            c.prepared_parts-parts.ensures.salt c.prepared_parts-parts.ensures.count opened.1,
      ),
      tt,
    )

pub returns-in-Ok-clause-due : goal.returns-in-Ok-clause-due
returns-in-Ok-clause-due c = λ prepared.
    let e = c.args.entry.now in
    let keys = keys_in e in
    let parts = c.prepared_parts-parts.result in
    let of = c.prepared_parts-parts.ensures.mechanism in
    let same = logins_are_same parts.mechanism c.args.mechanism parts.salt.now _ parts.count e.count keys (texts_in parts.others.list.now)
    (texts_in c.args.act_as.now) c.args.client_first.now c.args.server_first.now of
    c.prepared_parts-parts.ensures.salt c.prepared_parts-parts.ensures.count
    (rw c.prepared_parts-parts.ensures.others refl) in
    let are = subst (λ (k : Mechanism). ArePreparedFor k c.args.prepared.now e) (sym of) prepared in
    subst (λ (l : Challenged). IsDue l c.args.client_final.now (due_of c.in-Ok.judged)) same
    (c.in-Ok.ensures.due keys
    (prepared_keys_stand parts.mechanism c.args.prepared.now keys parts.keys
    (c.prepared_parts-parts.ensures.keys parts.mechanism)
    (λ k held. has_prepared_keys parts.mechanism c.args.prepared.now e k are held)))

pub returns-in-Err-judge_login-clause-fault : goal.returns-in-Err-judge_login-clause-fault
returns-in-Err-judge_login-clause-fault c =
    let e = c.args.entry.now in
    let keys = keys_in e in
    let parts = c.prepared_parts-parts.result in
    let names = texts_in parts.others.list.now in
    let client_first = c.args.client_first.now in
    let server_first = c.args.server_first.now in
    let fault = c.in-Err-judge_login.fault in
    let is = recorded_fault_of_other (entry_of_parts parts names keys) (entry_in e []) client_first server_first fault
    (sym c.prepared_parts-parts.ensures.salt) (sym c.prepared_parts-parts.ensures.count)
    (c.in-Err-judge_login.ensures.err keys) in
    fault_after_met (entry_demands c.args.mechanism e) (opens e client_first server_first ∷ []) (recorded_fault_number fault)
    c.in_default.ensures.met (inl (fault, refl, is))
