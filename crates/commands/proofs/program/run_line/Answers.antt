use Rattle.std.proofs.Common.{inl, inr, map, refl}
use Rattle.clap.specs.declared.error.kind.ErrorKind.TheVariants.{OutOfMemory}
use Rattle.commands.proofs.lemmas.Runs.{parse_error_is_words_error, parse_agrees_with_line, ended_command_ends_run, parsed_line_names_command}
use Rattle.commands.proofs.lemmas.Runs.{parsed_line_has_no_fault}
use Rattle.commands.proofs.program.run_line.Goals as goal

pub returns-in_default-clause-ends : goal.returns-in_default-clause-ends
returns-in_default-clause-ends g c = inr (OutOfMemory, inl refl, (c.report.ensures, refl))

pub dispatch-ended-requires : goal.dispatch-ended-requires
dispatch-ended-requires g c =
    let parsed = c.in-Ok-try_get_matches_from.ensures in
    parsed_line_names_command _ (map g.S.AsStr.text c.args.words.now) _ c.in-Ok.ensures parsed.matches parsed.kinds

pub returns-in-Ok-ended-clause-ends : goal.returns-in-Ok-ended-clause-ends
returns-in-Ok-ended-clause-ends g c =
    let line = map g.S.AsStr.text c.args.words.now in
    let parsed = c.in-Ok-try_get_matches_from.ensures in
    ended_command_ends_run _ _ _ line _ _ _ _ _ (parse_agrees_with_line _ line _ c.in-Ok.ensures parsed.matches)
    (parsed_line_has_no_fault _ line c.in-Ok.ensures parsed.kinds)
    (rw c.in-Ok-ended.is refl) c.dispatch-ended.ensures.ends

pub returns-in-Ok-try_get_matches_from-clause-ends : goal.returns-in-Ok-try_get_matches_from-clause-ends
returns-in-Ok-try_get_matches_from-clause-ends g c =
    let line = map g.S.AsStr.text c.args.words.now in
    let parsed = c.in-Ok-try_get_matches_from.ensures in
    ended_command_ends_run _ _ _ line _ _ _ _ _ (parse_agrees_with_line _ line _ c.in-Ok.ensures parsed.matches)
    (parsed_line_has_no_fault _ line c.in-Ok.ensures parsed.kinds)
    (rw c.in-Err-ended.is c.report-in-Err-ended.ensures) c.dispatch-ended.ensures.ends

pub returns-clause-ends : goal.returns-clause-ends
returns-clause-ends g c = inr (
  _,
  parse_error_is_words_error _
      (map g.S.AsStr.text c.args.words.now) c.in-Err.error c.in-Ok.ensures c.in-Err.ensures.kinds,
  c.explain.ensures,
)
