use Rattle.std.proofs.Common.{arith}
use Rattle.base64.specs.GeneralPurpose.{IsBytes}
use Rattle.scram_text.proofs.lemmas.messages_composed.ServerFinal.{signature_is_text}
use Rattle.scram_text.proofs.server_final.verifier_draft.Goals as goal

pub returns-clause-utf8_text : goal.returns-clause-utf8_text
returns-clause-utf8_text c =
    let fits : IsBytes c.args.signature.now = λ i. omega (arith, c.type_inv.signature i) in
    signature_is_text c.args.signature.now fits
