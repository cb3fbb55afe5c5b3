use Rattle.std.proofs.Common.{◌≡◌, inr, false, ℕ, List, Option, refl, sym, ◌∙◌, subst}
use Rattle.std.specs.Fmt.{decimal}
use Rattle.std.proofs.lemmas.Result.{IfOk-weaker, IfErr-weaker}
use Rattle.clap.specs.declared.parser.matches.ArgMatches.{ArgMatches}
use Rattle.scram_text.specs.Class.{IsPlainName}
use Rattle.command_line.specs.declared.option_name.OptionName.TheVariants as option
use Rattle.command_words.specs.Values.{given_value}
use Rattle.sasl_desk.specs.{IsMoment}
use Rattle.command_io.specs.HeldBook.{IsReadBook}
use Rattle.commands.specs.Verify.{VerifyRun, BeginsToVerify}
use Rattle.commands.proofs.verify.verify.Goals as goal

-- a run of `verify` begins with the name and the moment that its options give, and with the book that was read
options_begin_run : {File : Type 0} {bytes_of : File → Option (List ℕ)} {words : ArgMatches} {printed : Option (List ℕ)} {moment : ℕ}
    {name at : List ℕ} (run : VerifyRun) → name ≡ given_value words option.Name → IsPlainName name
    → at ≡ given_value words option.Moment → at ≡ decimal moment → IsMoment moment
    → IsReadBook bytes_of run.held.store.saved run.held.book → run.held.store.failed ≡ false → run.printed ≡ printed
    → BeginsToVerify bytes_of words printed moment run
options_begin_run run named plain timed spelled range read working is_printed = record {
  name_range = subst IsPlainName named plain;
  is_moment = sym timed ∙ spelled;
  moment_range = range;
  is_book = read;
  working = working;
  is_printed = is_printed;
}

pub returns-clause-ok : goal.returns-clause-ok
returns-clause-ok g c =
    IfOk-weaker c.answer_lines.result _ _
    (λ all_passed answers. record {
      moment = c.in_ok-moment.moment;
      first = _;
      last = _;
      begins = options_begin_run _ c.given.ensures c.in_ok-name.ensures.ok.1 c.given-2.ensures c.in_ok-moment.ensures.ok.0
          c.in_ok-moment.ensures.ok.1 c.in_ok-held.ensures.read c.in_ok-held.ensures.working refl;
      answers = rw (c.in_ok-name.ensures.ok.0, c.given.ensures) at answers;
      printed = refl;
    })
    c.answer_lines.ensures.ok

pub returns-clause-err : goal.returns-clause-err
returns-clause-err g c =
    IfErr-weaker c.answer_lines.result _ _
    (λ fault answers. inr (record {
      moment = c.in_ok-moment.moment;
      first = _;
      last = _;
      begins = options_begin_run _ c.given.ensures c.in_ok-name.ensures.ok.1 c.given-2.ensures c.in_ok-moment.ensures.ok.0
          c.in_ok-moment.ensures.ok.1 c.in_ok-held.ensures.read c.in_ok-held.ensures.working refl;
      answers = rw (c.in_ok-name.ensures.ok.0, c.given.ensures, c.given-path.ensures) at answers;
      printed = refl;
    }))
    c.answer_lines.ensures.err
