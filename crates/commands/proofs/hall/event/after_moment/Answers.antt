use Rattle.std.proofs.Common.{◌≢◌, ◌∷◌, ◌++◌, ℕ, List}
use Rattle.std.specs.Prelude.{decimal}
use Rattle.std.specs.Str.{byte}
use Rattle.scram_text.proofs.lemmas.CutAtByte.{lacking_text_is_not_cut}
use Rattle.log_grammar.proofs.lemmas.lines.Words.{moment_fits_64_bits}
use Rattle.sasl_log.proofs.lemmas.texts.Spaces.{front_is_decimal}
use Rattle.sasl_log.proofs.lemmas.texts.WithSpaces.{if_none_holds}
use Rattle.sasl_desk.specs.{IsMoment}
use Rattle.commands.proofs.hall.event.after_moment.Goals as goal

pub returns-in_err-seconds-clause-none : goal.returns-in_err-seconds-clause-none
returns-in_err-seconds-clause-none c =
    let none : (n : ℕ) (rest : List ℕ) → IsMoment n → c.args.text.now ≢ decimal n ++ byte " " ∷ rest =
    λ n rest is.
    lacking_text_is_not_cut (byte " ") c.args.text.now (decimal n) rest c.in_err-seconds.ensures in
    if_none_holds _ none

pub returns-in_err-moment-clause-none : goal.returns-in_err-moment-clause-none
returns-in_err-moment-clause-none c =
    let none : (n : ℕ) (rest : List ℕ) → IsMoment n → c.args.text.now ≢ decimal n ++ byte " " ∷ rest =
    λ n rest is whole.
    c.in_err-moment.ensures.none n is
    (front_is_decimal c.args.text.now c.in_ok-seconds.seconds.now c.in_ok-seconds.rest.now c.in_ok-seconds.ensures n
    (moment_fits_64_bits n is) rest whole) in
    if_none_holds _ none
