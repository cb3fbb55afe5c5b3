use Rattle.std.proofs.Common.{arith}
use Rattle.scram_text.specs.Limits.{max_tag_len}
use Rattle.scram_text.proofs.lemmas.Base64.{bytes_are_field}
use Rattle.scram_ends.proofs.lemmas.Written.{signature_can_be_written, signature_fits, written_unless_full}
use Rattle.scram_ends.proofs.write.write_signature.Goals as goal

pub returns : goal.returns
returns g c =
    let signature = c.args.signature.now in
    written_unless_full (rw c.copy_of.ensures at c.write_server_final.ensures)
    (signature_can_be_written signature
    (bytes_are_field max_tag_len signature (λ i. omega (arith, c.type_inv.signature i)) c.requires.some c.requires.most))
    (signature_fits signature c.requires.most)
