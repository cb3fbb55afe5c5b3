use Rattle.std.proofs.Common.{inl, inr, ℕ, List, refl, subst}
use Rattle.std.proofs.lemmas.Result.{IfErr-weaker}
use Rattle.command_io.specs.File.{IsFileUnwrittenOrNoMemory}
use Rattle.command_io.specs.HeldBook.{CannotOpenBook}
use Rattle.command_io.proofs.lemmas.Results.{if_err_all_three}
use Rattle.commands.specs.Hall.{StopsHearing}
use Rattle.commands.proofs.lemmas.Faults.{stop_weakens}
use Rattle.commands.proofs.hall.hall.Goals as goal

pub returns-in-Ok-clause-err : goal.returns-in-Ok-clause-err
returns-in-Ok-clause-err g c =
    IfErr-weaker c.hear_input-heard.result.0 _ _
    (λ fault (stops, bad, why). inr (
      subst (λ (path : List ℕ). StopsHearing path fault) c.given-path.ensures why,
      stop_weakens
          (λ unbegun. subst (λ (path : List ℕ). IsFileUnwrittenOrNoMemory path fault) c.given-path.ensures unbegun.0)
          (λ printed. (
            printed.0,
            record {
              text = _;
              book = _;
              is_read = c.in-Ok.ensures.read;
              store = _;
              printed = printed.1;
            },
          )) stops,
      λ is.
          let (line, last, log, bad_line) = bad is in
          (line, last, record { text = _; book = _; is_read = c.in-Ok.ensures.read; store = _; printed = log }, bad_line),
    ))
    (if_err_all_three c.hear_input-heard.result.0 _ _ _ c.hear_input-heard.ensures.err c.hear_input-heard.ensures.bad c.hear_input-heard.ensures.why)

pub returns-in-Err-clause-err : goal.returns-in-Err-clause-err
returns-in-Err-clause-err g c =
    inl (subst (λ (path : List ℕ). CannotOpenBook g.R.File.Read.remaining path c.in-Err.fault) c.given-path.ensures c.in-Err.ensures.err, refl)
