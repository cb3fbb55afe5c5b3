use Rattle.std.proofs.Common.{sym}
use Rattle.std.proofs.lemmas.Result.{on_ok_weaker}
use Rattle.account_commands.proofs.code.code.Goals as goal

pub returns-clause-ok : goal.returns-clause-ok
returns-clause-ok g c =
    on_ok_weaker c.print_line.result
    (λ printed. (
      c.text.result.now,
      record {
        secret = _;
        is_secret = rw c.given.ensures at c.in_ok-secret.ensures.ok.0;
        secret_range = c.in_ok-secret.ensures.ok.1;
        digits = _;
        are_digits = rw c.given-2.ensures at c.in_ok-digits.ensures.ok.0;
        digits_range = c.in_ok-digits.ensures.ok.1;
        factor = _;
        is_factor = c.in_ok-factor.ensures.asked;
        factor_range = c.in_ok-factor.ensures.range;
        is_code = rw (sym c.text.ensures.value) at c.in_ok-code.ensures.ok;
      },
      printed,
    ))
    c.print_line.ensures.printed
