use Rattle.std.proofs.Common.{◌≡◌, ℕ, List, [], ◌∷◌, ◌++◌, replicate, ap, ◌∙◌}
use Rattle.std.proofs.lemmas.List.{append_assoc}
use Rattle.mac_core.specs.Hmac.{inner_block}
use Rattle.mac_core.specs.Mechanism.{block_len_by, hash_by}
use Rattle.hmac_midstate.specs.Midstate.{last_value}
use Rattle.hmac_midstate.proofs.lemmas.Blocks.{length-xor_padded_key, reads_block}
use Rattle.hmac_midstate.proofs.signing.signatures.Goals as goal

joined : (block bare challenge rest : List ℕ)
    → ((((block ++ bare) ++ (44 ∷ [])) ++ challenge) ++ (44 ∷ [])) ++ rest ≡ block ++ (bare ++ 44 ∷ [] ++ challenge ++ 44 ∷ [] ++ rest)
joined block bare challenge rest = simp append_assoc

pub returns-clause-stored : goal.returns-clause-stored
returns-clause-stored c = λ key prepared.
    let m = c.args.mechanism in
    let block = inner_block (hash_by m) (block_len_by m) key in
    let text = c.args.bare.now ++ 44 ∷ [] ++ c.args.server_first.now ++ 44 ∷ [] ++ c.args.without_proof.now in
    let r0 = reads_block m c.args.keys.now.stored.inner (replicate 64 0) block (length-xor_padded_key m 0x36 key) prepared.inner in
    let r1 = c.add.ensures.one block r0 in
    let r2 = c.add-2.ensures.one _ r1 in
    let r3 = c.add-3.ensures.one _ r2 in
    let r4 = c.add-4.ensures.one _ r3 in
    let r5 = c.add-5.ensures.one _ r4 in
    let whole = joined block c.args.bare.now c.args.server_first.now c.args.without_proof.now in
    c.outer_digest.ensures.value key text prepared (c.pad.ensures.one _ r5 ∙ ap (last_value m) whole)

pub returns-clause-server : goal.returns-clause-server
returns-clause-server c = λ key prepared.
    let m = c.args.mechanism in
    let block = inner_block (hash_by m) (block_len_by m) key in
    let text = c.args.bare.now ++ 44 ∷ [] ++ c.args.server_first.now ++ 44 ∷ [] ++ c.args.without_proof.now in
    let r0 = reads_block m c.args.keys.now.server.inner (replicate 64 0) block (length-xor_padded_key m 0x36 key) prepared.inner in
    let r1 = c.add.ensures.other block r0 in
    let r2 = c.add-2.ensures.other _ r1 in
    let r3 = c.add-3.ensures.other _ r2 in
    let r4 = c.add-4.ensures.other _ r3 in
    let r5 = c.add-5.ensures.other _ r4 in
    let whole = joined block c.args.bare.now c.args.server_first.now c.args.without_proof.now in
    c.outer_digest-2.ensures.value key text prepared (c.pad.ensures.other _ r5 ∙ ap (last_value m) whole)
