use Rattle.std.proofs.Common.{◌≡◌, ℕ, List, [], ◌++◌, length, ap, ◌∙◌, arith}
use Rattle.mac_core.specs.Hmac.{inner_block, outer_block}
use Rattle.mac_core.specs.Mechanism.{block_len_by, digest_len_by, hash_by}
use Rattle.hmac_midstate.specs.Midstate.{digest_of}
use Rattle.hmac_midstate.proofs.lemmas.Blocks.{digest_len_fits, digest_of_last, hmac_by_parts, length-xor_padded_key, reads_block}
use Rattle.hmac_midstate.proofs.signing.outer_digest.Goals as goal

pub last_digest-requires-clause-short : goal.last_digest-requires-clause-short
last_digest-requires-clause-short c =
    let len : length c.as_slice.result.now ≡ digest_len_by c.args.mechanism =
    ap (λ (xs : List ℕ). length xs) c.as_slice.ensures.value ∙ c.digest.ensures.len in
    omega (arith, digest_len_fits c.args.mechanism)

pub returns-clause-value : goal.returns-clause-value
returns-clause-value c = λ bytes text prepared last.
    let m = c.args.mechanism in
    let outer = outer_block (hash_by m) (block_len_by m) bytes in
    let message = inner_block (hash_by m) (block_len_by m) bytes ++ text in
    let read = reads_block m c.args.key.now.outer [] outer (length-xor_padded_key m 0x5C bytes) prepared.outer in
    let inner : c.as_slice.result.now ≡ hash_by m message =
    c.as_slice.ensures.value ∙ c.digest.ensures.value ∙ ap (digest_of m) last ∙ digest_of_last m message in
    c.last_digest.ensures.value outer read ∙ hmac_by_parts m bytes text c.as_slice.result.now inner
