use Rattle.std.proofs.Common.{◌≡◌, arith, refl}
use Rattle.std.specs.Prelude.{IfErr}
use Rattle.std.specs.declared.result.Result.{Result}
use Rattle.std.specs.declared.result.Result.TheVariants.{Ok, Err}
use Rattle.scram_text.specs.declared.fault.WriteFault.{WriteFault}
use Rattle.scram_text.specs.declared.fault.WriteFault.TheVariants.{Unwritable, OverLimit, NoMemory}
use Rattle.scram_text.proofs.lemmas.Names.{length-spelling, spelling_is_saslname}
use Rattle.scram_text.proofs.name.write_name.Goals as goal

pub returns-clause-is_saslname : goal.returns-clause-is_saslname
returns-clause-is_saslname g c = spelling_is_saslname c.args.name.now c.add_name.ensures.plain.at_least

-- of three faults two are excluded, so a fault is NoMemory
fault_is_no_memory : {T : Type 0} (r : Result T WriteFault) (Room : Type 0) → (r ≡ Err Unwritable → ⊥) → (r ≡ Err OverLimit → ⊥)
    → (r ≡ Err NoMemory → Room) → IfErr r (λ f. (f ≡ NoMemory) × Room)
fault_is_no_memory (Ok done) Room unwritable over_limit room = tt
fault_is_no_memory (Err Unwritable) Room unwritable over_limit room = absurd (unwritable refl)
fault_is_no_memory (Err OverLimit) Room unwritable over_limit room = absurd (over_limit refl)
fault_is_no_memory (Err NoMemory) Room unwritable over_limit room = (refl, room refl)

pub returns-clause-no_memory : goal.returns-clause-no_memory
returns-clause-no_memory g c =
    let is = c.add_name.ensures.draft _ c.new-draft.ensures in
    fault_is_no_memory c.append_to.result _ c.append_to.ensures.unwritable
    (λ e. let long = c.append_to.ensures.over_limit e _ is in omega
    (arith, long, length-spelling c.args.name.now, c.add_name.ensures.plain.at_most))
    (λ e. (c.append_to.ensures.no_memory e _ is).1)
