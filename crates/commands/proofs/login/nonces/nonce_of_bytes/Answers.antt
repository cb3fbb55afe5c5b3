use Rattle.std.proofs.Common.{◌≡◌, ◌∙◌, sym, subst, rules, arith, List, ℕ}
use Rattle.scram_text.specs.Class.{IsNoncePart}
use Rattle.scram_text.specs.Base64Field.{base64}
use Rattle.commands.proofs.lemmas.Nonces.{random_base64_is_nonce_part}
use Rattle.commands.proofs.login.nonces.nonce_of_bytes.Goals as goal

pub unreachable-requires : goal.unreachable-requires
unfolding base64
unreachable-requires c =
    let is : c.as_bytes.result.now ≡ base64 c.args.bytes.now = search rules in
    let nonce = random_base64_is_nonce_part c.args.bytes.now (λ i. omega (arith, c.type_inv.bytes i)) c.requires in
    c.in_default.ensures (subst (λ (text : List ℕ). IsNoncePart text) (sym is) nonce)

pub returns-clause-ok : goal.returns-clause-ok
unfolding base64
returns-clause-ok c =
    let is : c.as_bytes.result.now ≡ base64 c.args.bytes.now = search rules in
    c.in-Some.ensures.1 ∙ is
