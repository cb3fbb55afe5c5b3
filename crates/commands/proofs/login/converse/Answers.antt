use Rattle.std.proofs.Common.{inl, refl}
use Rattle.sasl_desk.proofs.lemmas.runs.Logs.{log_is_clean_closed}
use Rattle.sasl_desk.proofs.lemmas.runs.Stores.{log_is_saved}
use Rattle.command_io.proofs.lemmas.Results.{handed_fault_keeps_fact}
use Rattle.commands.specs.inner.DeskLogSteps.{IsLogAfterFaultWith}
use Rattle.commands.specs.Talked.{talked_shown}
use Rattle.commands.proofs.lemmas.DeskLogs.{fault_after_step_leaves_log, two_steps_keep_log}
use Rattle.commands.proofs.lemmas.HaltedLogs.{failed_store_ends_desk_log}
use Rattle.commands.proofs.login.converse.Goals as goal

pub returns-in_err-hang_up-clause-after_fault : goal.returns-in_err-hang_up-clause-after_fault
returns-in_err-hang_up-clause-after_fault g c =
    handed_fault_keeps_fact c.from_residual-in_err-hang_up.result _
    (IsLogAfterFaultWith g.S.BookStore.facts g.S.BookStore.IsStored g.C.Clock.IsNow c.args.server_nonce c.args.talk.now.desk
    (g.L.Sink.facts c.args.talk.now.log) c.hang_up.new.talk.desk (g.L.Sink.facts c.hang_up.new.talk.log))
    c.from_residual-in_err-hang_up.ensures.1
    (fault_after_step_leaves_log c.in_ok-passed.ensures.log c.in_err-hang_up.ensures.after_fault)

-- after the login and the codes the client is sent nothing more
pub returns-clause-talk : goal.returns-clause-talk
returns-clause-talk g c = record {
  last = talked_shown g.R.Source.facts g.W.Sink.facts g.L.Sink.facts c.log_in_and_send.new.self;
  sends = c.in_ok-passed.ensures.sends;
  ends = c.in_ok-hang_up.ensures.silent;
}

-- no session is open, so the log is clean
pub returns-clause-clean : goal.returns-clause-clean
returns-clause-clean g c = λ start before l.
    let desk = two_steps_keep_log c.in_ok-passed.ensures.log c.in_ok-hang_up.ensures.log start before l in (
      _,
      log_is_clean_closed desk.stands (inl c.in_ok-hang_up.ensures.closed),
      record { calls = desk.calls; place = desk.stands.place; is_run = desk.stands.is_run; requests = desk.requests; is_log = refl },
      desk.logged,
      log_is_saved desk.stands,
      failed_store_ends_desk_log desk.stands,
    )
