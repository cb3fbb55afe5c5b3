use Rattle.mac_core.specs.Hmac.{hmac}
use Rattle.mac_core.proofs.hmac.Mac.done.Goals as goal

pub returns-clause-value : goal.returns-clause-value
unfolding hmac
returns-clause-value g c = λ key text h. cc (c.done-2.ensures.value _ (c.add.ensures _ h.outer), c.done.ensures.value _ h.inner)
