use Rattle.std.proofs.Common.{◌<◌, ◌^◌, arith}
use Rattle.scram_text.specs.Limits.{max_salt_len}
use Rattle.scram_text.specs.Base64Field.{IsField}
use Rattle.scram_text.proofs.lemmas.Base64.{bytes_are_field}
use Rattle.scram_ends.proofs.lemmas.Written.{challenge_can_be_written, challenge_fits, written_unless_full}
use Rattle.scram_ends.proofs.write.write_challenge.Goals as goal

pub returns : goal.returns
returns g c =
    let most : c.args.count < 2 ^ 32 = omega arith in
    let salt : IsField max_salt_len c.args.salt.now =
    bytes_are_field max_salt_len c.args.salt.now (rw c.bytes.ensures.value at c.law_of_bytes.ensures) c.bytes.ensures.fits.at_least
    c.bytes.ensures.fits.at_most in
    written_unless_full c.write_server_first.ensures
    (challenge_can_be_written c.args.nonce.now c.args.salt.now c.args.count c.requires.nonce salt c.requires.count most)
    (challenge_fits c.args.nonce.now c.args.salt.now c.args.count c.requires.nonce salt most)
