use Rattle.std.proofs.Common.{[], refl}
use Rattle.std.specs.Option.{option_copied}
use Rattle.std.specs.declared.option.Option.TheVariants.{None}
use Rattle.std.proofs.lemmas.Result.{err_from_is_err_and}
use Rattle.scram_text.specs.Parts.{parts, parts_of_some}
use Rattle.scram_text.specs.Messages.{ClientFirstParts}
use Rattle.scram_text.proofs.lemmas.ClientFirst.{unfit_name_is_bare_misfit, unfit_nonce_is_bare_misfit, extension_misfit_is_bare_misfit}
use Rattle.scram_text.proofs.lemmas.ClientFirst.{bare_pieces_are_parts}
use Rattle.scram_text.proofs.client_first.read_bare.Goals as goal

pub returns-in_default-clause-fault : goal.returns-in_default-clause-fault
returns-in_default-clause-fault c =
    let cut = c.in_ok-pieces.ensures.cut in
    unfit_name_is_bare_misfit (parts c.args.bare.now) _ _ _ cut.mext _ cut.mext_and_rest cut.index c.in_default.ensures.none

pub returns-in_default-nonce_of-clause-fault : goal.returns-in_default-nonce_of-clause-fault
returns-in_default-nonce_of-clause-fault c =
    let cut = c.in_ok-pieces.ensures.cut in
    unfit_nonce_is_bare_misfit (parts c.args.bare.now) _ _ _ cut.mext _ cut.mext_and_rest cut.index
    (c.in-Some.name, c.in-Some.ensures.spelled, c.in-Some.ensures.class) c.in_default-nonce_of.ensures.none

pub returns-in_err-extensions-clause-fault : goal.returns-in_err-extensions-clause-fault
returns-in_err-extensions-clause-fault c =
    let cut = c.in_ok-pieces.ensures.cut in
    let p = err_from_is_err_and c.from_residual-in_err-extensions.result c.from_residual-in_err-extensions.ensures.1 in
    rw (p.1, p.2) (extension_misfit_is_bare_misfit (parts c.args.bare.now) _ _ _ cut.mext _ cut.mext_and_rest cut.index _
    (c.in-Some.name, c.in-Some.ensures.spelled, c.in-Some.ensures.class)
    (c.in-Some-nonce_of.nonce.now, c.in-Some-nonce_of.ensures.spelled, c.in-Some-nonce_of.ensures.class)
    c.in_err-extensions.ensures.fault)

pub returns-clause-found : goal.returns-clause-found
returns-clause-found c =
    let cut = c.in_ok-pieces.ensures.cut in
    let p : ClientFirstParts = record {
      flag = [];
      authzid = None;
      mext = cut.mext;
      name = c.in-Some.name;
      nonce = c.in-Some-nonce_of.nonce.now;
      extensions = parts_of_some (option_copied c.in_ok-pieces.pieces.rest);
    } in (
      p,
      record {
        cut = bare_pieces_are_parts (parts c.args.bare.now) _ _ p cut.mext_and_rest c.in-Some.ensures.spelled
            c.in-Some-nonce_of.ensures.spelled;
        headed = cut.mext_and_rest.headed;
        mext = cut.mext_and_rest.value;
        name = c.in-Some.ensures.class;
        nonce = c.in-Some-nonce_of.ensures.class;
        extensions = c.in_ok-extensions.ensures.found;
      },
      record {
        mandatory = rw (cut.has_mext_is, c.in_ok-extensions.ensures.mandatory) refl;
        name = refl;
        nonce = refl;
        extensions = c.in_ok-extensions.ensures.text;
      },
    )
