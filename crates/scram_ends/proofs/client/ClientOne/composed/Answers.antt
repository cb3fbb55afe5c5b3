use Rattle.std.proofs.Common.{◌≤◌, [], length, ap, refl, arith}
use Rattle.scram_text.specs.Limits.{max_tag_len}
use Rattle.scram_text.specs.Messages.{ClientFinalParts, client_final_text}
use Rattle.scram_text.specs.Written.{client_final_of}
use Rattle.scram_text.proofs.lemmas.Base64.{bytes_are_field}
use Rattle.scram_text.proofs.lemmas.messages_composed.ClientFinal.{with_proof_is_client_final}
use Rattle.scram_ends.proofs.lemmas.HonestLogins.{digest_length_is_in_range}
use Rattle.scram_ends.proofs.lemmas.client_messages.ClientFinal.{without_proof_never_fails, client_final_is_short}
use Rattle.scram_ends.proofs.lemmas.client_messages.Expectations.{client_answers_honestly}
use Rattle.scram_ends.proofs.client.ClientOne.composed.Goals as goal

pub unreachable-requires : goal.unreachable-requires
unreachable-requires c =
    let some : 1 ≤ length c.as_slice-header.result.now = omega (arith, ap length c.as_slice-header.ensures.value, c.args.self.now.has_header) in
    without_proof_never_fails c.new.result _ c.as_slice-header.result.now c.args.challenge.now.nonce.now c.in_default.is
    c.law_of_bytes.ensures some (omega arith) c.requires.1
    c.new.ensures.unwritable c.new.ensures.over_limit c.new.ensures.no_memory

pub returns : goal.returns
returns c = λ l p started is shows.
    let header = c.as_slice-header.result.now in
    let nonce = c.args.challenge.now.nonce.now in
    let proof = c.prove-proved.result.proof.items in
    let final : ClientFinalParts = client_final_of header nonce [] proof in
    let composed = c.in-Ok.ensures.ok proof in
    let size = digest_length_is_in_range c.args.self.now.mechanism in
    let field = bytes_are_field max_tag_len proof c.prove-proved.ensures.bytes (omega (arith, c.prove-proved.ensures.len, size.0))
    (omega (arith, c.prove-proved.ensures.len, size.1)) in
    let short = client_final_is_short header nonce proof (omega arith) c.requires.1.at_most field.at_most in
    let is_final = with_proof_is_client_final c.in-Ok.without_proof final proof composed refl c.prove-proved.ensures.bytes field short in (
      client_final_text final,
      client_answers_honestly c.args.self.now
          (record { without_proof = c.in-Ok.without_proof; proof = c.prove-proved.result.proof; expected = c.prove-proved.result.expected })
          l c.args.server_first.now c.args.password.now header nonce c.args.challenge.now.salt c.as_slice.result.now
          c.args.challenge.now.count p started is c.as_slice-header.ensures.value shows.nonce shows.salt shows.count
          (c.as_slice.ensures final composed) composed (c.prove-proved.ensures.proof started.first started.bare)
          (c.prove-proved.ensures.expected started.first started.bare) is_final,
    )
