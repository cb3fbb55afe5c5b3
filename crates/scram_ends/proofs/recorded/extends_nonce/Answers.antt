use Rattle.std.proofs.Common.{◌≤◌, length, drop, arith, length-drop}
use Rattle.std.proofs.lemmas.Bool.Decides.{Decides-eqb}
use Rattle.std.proofs.lemmas.Slice.Eq.{starts_is}
use Rattle.scram_ends.proofs.recorded.extends_nonce.Goals as goal

pub returns-then-nonce-client : goal.returns-then-nonce-client
returns-then-nonce-client c =
    let nonce = c.args.nonce.now in
    let client = c.args.client.now in
    let is = starts_is Decides-eqb nonce client c.starts_with.result c.starts_with.ensures.value in
    let some : 1 ≤ length (drop (length client) nonce) = omega (arith, length-drop (length client) nonce, c.if-nonce-client.true) in
    ((λ found. (drop (length client) nonce, is.0 found, some)), λ longer. is.1 longer.0 longer.1)
