use Rattle.std.proofs.Common.{◌≡◌, Err, ap, refl}
use Rattle.scram_text.specs.declared.fault.WriteFault.{WriteFault}
use Rattle.scram_text.specs.declared.fault.WriteFault.TheVariants.{NoMemory}
use Rattle.scram_ends.specs.Verdict.{due_of, due_text}
use Rattle.scram_ends.proofs.lemmas.DueMessages.{accepted_iff_valid}
use Rattle.scram_ends.proofs.lemmas.client_messages.WriteFaults.{write_fault_is_memory}
use Rattle.scram_ends.proofs.server.ServerWait.finish.Goals as goal

pub returns-in-Ok-clause-valid : goal.returns-in-Ok-clause-valid
returns-in-Ok-clause-valid g c = λ l stands.
    let d = due_of c.verdict_on-judged.result in (
      due_text d,
      c.in-Ok.ensures.appended.0,
      rw c.verdict.ensures (accepted_iff_valid l c.args.client_final.now d (c.verdict_on-judged.ensures.due l stands)),
    )

pub returns-in-Err-clause-back : goal.returns-in-Err-clause-back
returns-in-Err-clause-back g c = (
  refl,
  write_fault_is_memory (Err c.in-Err.fault) c.in-Err.fault refl c.in-Err.ensures.unwritable c.in-Err.ensures.over_limit,
)

pub returns-in-Err-clause-no_memory : goal.returns-in-Err-clause-no_memory
returns-in-Err-clause-no_memory g c = λ l stands.
    let memory : c.in-Err.fault ≡ NoMemory =
    write_fault_is_memory (Err c.in-Err.fault) c.in-Err.fault refl c.in-Err.ensures.unwritable c.in-Err.ensures.over_limit in
    let room = c.in-Err.ensures.no_memory (ap (λ (f : WriteFault). Err f) memory) in
    (due_of c.verdict_on-judged.result, c.verdict_on-judged.ensures.due l stands, room.0.short, room.1)
