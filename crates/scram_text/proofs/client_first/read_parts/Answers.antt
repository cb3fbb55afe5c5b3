use Rattle.std.proofs.Common.{refl}
use Rattle.std.proofs.lemmas.Result.{err_from_is_err_and}
use Rattle.scram_text.specs.Messages.{ClientFirstParts}
use Rattle.scram_text.proofs.lemmas.ClientFirst.{unfit_flag_is_fault, unfit_authzid_is_fault, bare_misfit_is_fault, pieces_spell_client_first}
use Rattle.scram_text.proofs.client_first.read_parts.Goals as goal

pub returns-in_default-clause-fault : goal.returns-in_default-clause-fault
returns-in_default-clause-fault c =
    let cut = c.in_ok-pieces.ensures.cut in
    unfit_flag_is_fault c.args.message.now _ _ _ cut.short cut.utf8_text cut.cut cut.enough c.in_default.ensures.class

pub returns-in_err-authzid-clause-fault : goal.returns-in_err-authzid-clause-fault
returns-in_err-authzid-clause-fault c =
    let cut = c.in_ok-pieces.ensures.cut in
    let p = err_from_is_err_and c.from_residual-in_err-authzid.result c.from_residual-in_err-authzid.ensures.1 in
    rw (p.1, p.2) (unfit_authzid_is_fault c.args.message.now _ _ _ cut.short cut.utf8_text cut.cut cut.enough _ c.in-Some.ensures.class
    c.in_err-authzid.ensures.fault)

pub returns-in_err-bare-clause-fault : goal.returns-in_err-bare-clause-fault
returns-in_err-bare-clause-fault c =
    let cut = c.in_ok-pieces.ensures.cut in
    let p = err_from_is_err_and c.from_residual-in_err-bare.result c.from_residual-in_err-bare.ensures.1 in
    rw (p.1, p.2) (bare_misfit_is_fault c.args.message.now _ _ _ cut.short cut.utf8_text cut.cut cut.enough _ c.in-Some.ensures.class
    (c.in_ok-authzid.authzid, c.in_ok-authzid.ensures.spelled, c.in_ok-authzid.ensures.class) c.in_err-bare.ensures.fault)

pub returns-clause-found : goal.returns-clause-found
returns-clause-found c =
    let cut = c.in_ok-pieces.ensures.cut in
    let (bare, is, shows) = c.in_ok-bare.ensures.found in
    let p : ClientFirstParts = record bare { flag = c.in_ok-pieces.pieces.flag.now; authzid = c.in_ok-authzid.authzid } in
    let spelled = pieces_spell_client_first c.args.message.now c.in_ok-pieces.pieces.header.now c.in_ok-pieces.pieces.flag.now
    c.in_ok-pieces.pieces.authzid.now c.in_ok-pieces.pieces.bare.now p cut.header cut.header_parts refl c.in_ok-authzid.ensures.spelled
    is.cut in (
      p,
      record {
        spelled = spelled.2;
        flag = c.in-Some.ensures.class;
        authzid = c.in_ok-authzid.ensures.class;
        mext = is.mext;
        name = is.name;
        nonce = is.nonce;
        extensions = is.extensions;
        utf8_text = cut.utf8_text;
        short = cut.short;
      },
      record {
        header = spelled.0;
        bare = spelled.1;
        flag = c.in-Some.ensures.spelled;
        authzid = refl;
        mandatory = shows.mandatory;
        name = shows.name;
        nonce = shows.nonce;
        extensions = shows.extensions;
      },
    )
