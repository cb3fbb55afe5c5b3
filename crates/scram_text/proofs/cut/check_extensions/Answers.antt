use Rattle.std.proofs.lemmas.Bool.{both_ways}
use Rattle.scram_text.proofs.lemmas.Extensions.{RestShowsAll-next, unfit_extension_is_misfit}
use Rattle.scram_text.proofs.cut.check_extensions.Goals as goal

pub returns-then-not-is_extension-clause-fault : goal.returns-then-not-is_extension-clause-fault
returns-then-not-is_extension-clause-fault c =
    let leads = rw (c.in-Some.is, c.cut.ensures.parts) at c.loop-left.invariant in
    unfit_extension_is_misfit _ _ _ _ _ _ leads (λ fits. both_ways _ c.if-not-is_extension.true (c.is_extension.ensures.1 fits))

pub loop-left-preserved : goal.loop-left-preserved
loop-left-preserved c =
    let leads = rw (c.in-Some.is, c.cut.ensures.parts) at c.loop-left.invariant in
    rw c.is_named-mandatory.ensures
    (RestShowsAll-next _ _ _ _ _ _ leads (c.is_extension.ensures.0 c.if-not-is_extension.false))
