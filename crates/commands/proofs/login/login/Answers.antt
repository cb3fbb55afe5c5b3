use Rattle.std.proofs.Common.{inl, inr, refl}
use Rattle.std.proofs.lemmas.Result.{IfErr-weaker}
use Rattle.command_io.proofs.lemmas.Results.{if_err_both, if_ok_from_both}
use Rattle.commands.proofs.lemmas.Faults.{stop_weakens}
use Rattle.commands.proofs.login.login.Goals as goal

pub returns-in-Ok-open-clause-ok : goal.returns-in-Ok-open-clause-ok
returns-in-Ok-open-clause-ok g c =
    if_ok_from_both c.talk_over-passed.result.0 _ _ _ c.talk_over-passed.ensures.talk c.talk_over-passed.ensures.ok
    (λ passed talk printed. (
      _,
      _,
      c.in-Ok.ensures.nonces,
      record {
        text = _;
        book = _;
        is_read = c.in-Ok.ensures.book;
        moment = _;
        is_moment = c.in-Ok.ensures.moment.0;
        moment_range = c.in-Ok.ensures.moment.1;
        store = _;
        printed = printed;
      },
      let (has_lf, first) = c.in-Ok.ensures.password in record {
        user = _;
        is_user = c.in-Ok.ensures.user;
        password = _;
        has_lf = has_lf;
        rest = _;
        is_first_line = first;
        is_password = c.in-Ok.ensures.is_password;
        talk = talk;
      },
    ))

pub returns-in-Err-clause-err : goal.returns-in-Err-clause-err
returns-in-Err-clause-err g c = inl (c.in-Err.ensures.err, refl)

pub returns-in-Ok-open-clause-err : goal.returns-in-Ok-open-clause-err
returns-in-Ok-open-clause-err g c =
    IfErr-weaker c.talk_over-passed.result.0 _ _
    (λ fault stops. inr (
      rw c.in-Ok.ensures.path at stops.0,
      stop_weakens (λ unbegun. inr (rw c.in-Ok.ensures.path at unbegun.0)) (λ printed. (
        _,
        _,
        c.in-Ok.ensures.nonces,
        record {
          text = _;
          book = _;
          is_read = c.in-Ok.ensures.book;
          moment = _;
          is_moment = c.in-Ok.ensures.moment.0;
          moment_range = c.in-Ok.ensures.moment.1;
          store = _;
          printed = printed;
        },
      )) stops.1,
    ))
    (if_err_both _ _ c.talk_over-passed.result.0 c.talk_over-passed.ensures.why c.talk_over-passed.ensures.err)
