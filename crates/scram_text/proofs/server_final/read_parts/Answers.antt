use Rattle.std.proofs.Common.{refl}
use Rattle.std.specs.Option.{option_copied}
use Rattle.std.proofs.lemmas.Result.{err_from_is_err_and}
use Rattle.scram_text.specs.Parts.{parts_of_some}
use Rattle.scram_text.specs.Messages.{ServerFinalParts}
use Rattle.scram_text.specs.Shown.{verifier_or_error_of}
use Rattle.scram_text.proofs.lemmas.ServerFinal.{unfit_verifier_or_error_is_fault, extension_misfit_is_fault, verifier_or_error_part_fits, pieces_spell_server_final}
use Rattle.scram_text.proofs.server_final.read_parts.Goals as goal

pub returns-in_err-result-clause-fault : goal.returns-in_err-result-clause-fault
returns-in_err-result-clause-fault c =
    let p = err_from_is_err_and c.from_residual-in_err-result.result c.from_residual-in_err-result.ensures.1 in
    rw (p.1, p.2) (unfit_verifier_or_error_is_fault c.args.message.now c.cut.result.0.now _ c.in_ok-checked_part_count.ensures.short
    c.in_ok-checked_part_count.ensures.utf8_text c.cut.ensures.parts _ c.in_err-result.ensures.fault)

pub returns-in_err-extensions-clause-fault : goal.returns-in_err-extensions-clause-fault
returns-in_err-extensions-clause-fault c =
    let p = err_from_is_err_and c.from_residual-in_err-extensions.result c.from_residual-in_err-extensions.ensures.1 in
    rw (p.1, p.2) (extension_misfit_is_fault c.args.message.now c.cut.result.0.now _ c.in_ok-checked_part_count.ensures.short
    c.in_ok-checked_part_count.ensures.utf8_text c.cut.ensures.parts _
    (verifier_or_error_part_fits c.cut.result.0.now (verifier_or_error_of c.in_ok-result.result) c.in_ok-result.ensures.spelled
    c.in_ok-result.ensures.class)
    c.in_err-extensions.ensures.fault)

pub returns-clause-found : goal.returns-clause-found
returns-clause-found c =
    let p : ServerFinalParts = record {
      verifier_or_error = verifier_or_error_of c.in_ok-result.result;
      extensions = parts_of_some (option_copied c.cut.result.1);
    } in (
      p,
      record {
        spelled = pieces_spell_server_final c.args.message.now c.cut.result.0.now p c.cut.ensures.parts c.in_ok-result.ensures.spelled;
        verifier_or_error = c.in_ok-result.ensures.class;
        extensions = c.in_ok-extensions.ensures.found;
        utf8_text = c.in_ok-checked_part_count.ensures.utf8_text;
        short = c.in_ok-checked_part_count.ensures.short;
      },
      record {
        mandatory = c.in_ok-extensions.ensures.mandatory;
        verifier_or_error = refl;
        extensions = c.in_ok-extensions.ensures.text;
      },
    )
