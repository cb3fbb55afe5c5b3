use Rattle.std.proofs.Common.{refl}
use Rattle.std.specs.Option.{option_copied}
use Rattle.std.proofs.lemmas.Result.{err_from_is_err_and}
use Rattle.std.specs.Str.{byte}
use Rattle.scram_text.specs.Limits.{max_salt_len}
use Rattle.scram_text.specs.Parts.{parts_of_some}
use Rattle.scram_text.specs.Messages.{ServerFirstParts}
use Rattle.scram_text.proofs.lemmas.Places.{field_part_spells_field}
use Rattle.scram_text.proofs.lemmas.ServerFirst.{unfit_nonce_is_fault, unfit_salt_is_fault, unfit_count_is_fault, extension_misfit_is_fault}
use Rattle.scram_text.proofs.lemmas.ServerFirst.{pieces_spell_server_first}
use Rattle.scram_text.proofs.server_first.read_parts.Goals as goal

pub returns-in_default-clause-fault : goal.returns-in_default-clause-fault
returns-in_default-clause-fault c =
    let cut = c.in_ok-pieces.ensures.cut in
    unfit_nonce_is_fault c.args.message.now _ _ _ _ cut.mext _ cut.short cut.utf8_text cut.mext_and_rest cut.index c.in_default.ensures.none

pub returns-in_default-salt_of-clause-fault : goal.returns-in_default-salt_of-clause-fault
returns-in_default-salt_of-clause-fault c =
    let cut = c.in_ok-pieces.ensures.cut in
    unfit_salt_is_fault c.args.message.now _ _ _ _ cut.mext _ cut.short cut.utf8_text cut.mext_and_rest cut.index
    (c.in-Some.nonce.now, c.in-Some.ensures.spelled, c.in-Some.ensures.class) c.in_default-salt_of.ensures.none

pub returns-in_default-count_of-clause-fault : goal.returns-in_default-count_of-clause-fault
returns-in_default-count_of-clause-fault c =
    let cut = c.in_ok-pieces.ensures.cut in
    unfit_count_is_fault c.args.message.now _ _ _ _ cut.mext _ cut.short cut.utf8_text cut.mext_and_rest cut.index
    (c.in-Some.nonce.now, c.in-Some.ensures.spelled, c.in-Some.ensures.class)
    (field_part_spells_field (byte "s") max_salt_len _ _ c.in-Some-salt_of.ensures.spelled c.in-Some-salt_of.ensures.class)
    c.in_default-count_of.ensures.none

pub returns-in_err-extensions-clause-fault : goal.returns-in_err-extensions-clause-fault
returns-in_err-extensions-clause-fault c =
    let cut = c.in_ok-pieces.ensures.cut in
    let p = err_from_is_err_and c.from_residual-in_err-extensions.result c.from_residual-in_err-extensions.ensures.1 in
    rw (p.1, p.2) (extension_misfit_is_fault c.args.message.now _ _ _ _ cut.mext _ cut.short cut.utf8_text cut.mext_and_rest cut.index _
    (c.in-Some.nonce.now, c.in-Some.ensures.spelled, c.in-Some.ensures.class)
    (field_part_spells_field (byte "s") max_salt_len _ _ c.in-Some-salt_of.ensures.spelled c.in-Some-salt_of.ensures.class)
    (_, c.in-Some-count_of.ensures.spelled, (c.in-Some-count_of.count, refl, c.in-Some-count_of.ensures.class))
    c.in_err-extensions.ensures.fault)

pub returns-clause-found : goal.returns-clause-found
returns-clause-found c =
    let cut = c.in_ok-pieces.ensures.cut in
    let p : ServerFirstParts = record {
      mext = cut.mext;
      nonce = c.in-Some.nonce.now;
      salt = c.in-Some-salt_of.salt;
      count = c.in-Some-count_of.count;
      extensions = parts_of_some (option_copied c.in_ok-pieces.pieces.rest);
    } in (
      p,
      record {
        spelled = pieces_spell_server_first c.args.message.now _ _ _ p cut.mext_and_rest c.in-Some.ensures.spelled
            c.in-Some-salt_of.ensures.spelled
            c.in-Some-count_of.ensures.spelled;
        mext = cut.mext_and_rest.value;
        nonce = c.in-Some.ensures.class;
        salt = c.in-Some-salt_of.ensures.class;
        count = c.in-Some-count_of.ensures.class;
        extensions = c.in_ok-extensions.ensures.found;
        utf8_text = cut.utf8_text;
        short = cut.short;
      },
      record {
        mandatory = rw (cut.has_mext_is, c.in_ok-extensions.ensures.mandatory) refl;
        nonce = refl;
        salt = refl;
        count = refl;
        extensions = c.in_ok-extensions.ensures.text;
      },
    )
