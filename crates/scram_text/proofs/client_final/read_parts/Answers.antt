use Rattle.std.proofs.Common.{ℕ, List, [], ◌∷◌, refl, arith, length-append}
use Rattle.std.specs.Option.{option_copied}
use Rattle.std.proofs.lemmas.Result.{err_from_is_err_and}
use Rattle.scram_text.specs.Limits.{max_channel_len}
use Rattle.scram_text.specs.Parts.{parts_of_some}
use Rattle.scram_text.specs.Messages.{ClientFinalParts}
use Rattle.scram_text.proofs.lemmas.Places.{field_part_spells_field}
use Rattle.scram_text.proofs.lemmas.ClientFinal.{unfit_channel_is_fault, unfit_nonce_is_fault, extension_misfit_is_fault, unfit_proof_is_fault}
use Rattle.scram_text.proofs.lemmas.ClientFinal.{pieces_spell_client_final}
use Rattle.scram_text.proofs.client_final.read_parts.Goals as goal

pub returns-in_default-clause-fault : goal.returns-in_default-clause-fault
returns-in_default-clause-fault c =
    let cut = c.in_ok-pieces.ensures.cut in
    unfit_channel_is_fault c.args.message.now _ _ _ _ cut.short cut.utf8_text cut.cut_whole c.in_default.ensures.none

pub returns-in_default-nonce_of-clause-fault : goal.returns-in_default-nonce_of-clause-fault
returns-in_default-nonce_of-clause-fault c =
    let cut = c.in_ok-pieces.ensures.cut in
    unfit_nonce_is_fault c.args.message.now _ _ _ _ cut.short cut.utf8_text cut.cut_whole
    (field_part_spells_field 99 max_channel_len _ _ c.in-Some.ensures.spelled c.in-Some.ensures.class) c.in_default-nonce_of.ensures.none

pub returns-in_err-extensions-clause-fault : goal.returns-in_err-extensions-clause-fault
returns-in_err-extensions-clause-fault c =
    let cut = c.in_ok-pieces.ensures.cut in
    let p = err_from_is_err_and c.from_residual-in_err-extensions.result c.from_residual-in_err-extensions.ensures.1 in
    rw (p.1, p.2) (extension_misfit_is_fault c.args.message.now _ _ _ _ cut.short cut.utf8_text cut.cut_whole _
    (field_part_spells_field 99 max_channel_len _ _ c.in-Some.ensures.spelled c.in-Some.ensures.class)
    (c.in-Some-nonce_of.nonce.now, c.in-Some-nonce_of.ensures.spelled, c.in-Some-nonce_of.ensures.class)
    c.in_err-extensions.ensures.fault)

pub returns-in_default-short_bytes_of-clause-fault : goal.returns-in_default-short_bytes_of-clause-fault
returns-in_default-short_bytes_of-clause-fault c =
    let cut = c.in_ok-pieces.ensures.cut in
    let rest : List (List ℕ) = parts_of_some (option_copied c.in_ok-pieces.pieces.rest) in
    let count = rw cut.cut_whole at cut.count in
    unfit_proof_is_fault c.args.message.now _ _ _ rest cut.short cut.utf8_text cut.cut_whole _
    (field_part_spells_field 99 max_channel_len _ _ c.in-Some.ensures.spelled c.in-Some.ensures.class)
    (c.in-Some-nonce_of.nonce.now, c.in-Some-nonce_of.ensures.spelled, c.in-Some-nonce_of.ensures.class)
    c.in_ok-extensions.ensures.found c.in_default-short_bytes_of.ensures.none
    (omega (arith, count, length-append rest (c.in_ok-pieces.pieces.proof.now ∷ [])))

pub returns-clause-found : goal.returns-clause-found
returns-clause-found c =
    let cut = c.in_ok-pieces.ensures.cut in
    let p : ClientFinalParts = record {
      channel = c.in-Some.channel.items;
      nonce = c.in-Some-nonce_of.nonce.now;
      extensions = parts_of_some (option_copied c.in_ok-pieces.pieces.rest);
      proof = c.in-Some-short_bytes_of.proof.items;
    } in
    let spelled = pieces_spell_client_final c.args.message.now c.in_ok-pieces.pieces.without_proof.now c.in_ok-pieces.pieces.proof.now
    c.in_ok-pieces.pieces.channel.now c.in_ok-pieces.pieces.nonce.now p cut.whole cut.cut
    c.in-Some.ensures.spelled c.in-Some-nonce_of.ensures.spelled c.in-Some-short_bytes_of.ensures.spelled in (
      p,
      record {
        spelled = spelled.1;
        channel = c.in-Some.ensures.class;
        nonce = c.in-Some-nonce_of.ensures.class;
        extensions = c.in_ok-extensions.ensures.found;
        proof = c.in-Some-short_bytes_of.ensures.class;
        utf8_text = cut.utf8_text;
        short = cut.short;
      },
      record {
        without_proof = spelled.0;
        mandatory = c.in_ok-extensions.ensures.mandatory;
        channel = refl;
        nonce = refl;
        extensions = c.in_ok-extensions.ensures.text;
        proof = refl;
      },
    )
