use Rattle.std.proofs.Common.{rules, refl}
use Rattle.command_words.specs.Commands.CommandName.{Keys, Enrol, Code, Verify, Unlock, Login, Hall, Audit, Report, Upgrade}
use Rattle.command_io.proofs.lemmas.Results.{if_err_both}
use Rattle.commands.specs.Program.{answer_status}
use Rattle.commands.proofs.lemmas.Runs.{command_with_answer_ends, command_with_status_ends, found_command_is_known, found_command_has_name}
use Rattle.commands.proofs.program.run_command.Goals.{in_default-via-in-Some+in_default, in_default-via-in_default}
use Rattle.commands.proofs.program.run_command.Goals as goal

pub returns-in-Some-keys-default-clause-ends : goal.returns-in-Some-keys-default-clause-ends
returns-in-Some-keys-default-clause-ends g c =
    command_with_answer_ends Keys _ _ _ c.in-Some-keys-default.ensures.name c.in-Some-keys-default.ensures.rows
    c.in-Some-keys-default.is-keys _ _ _ _ _ (λ _. 0) c.keys.result c.done.result c.done.ensures c.keys.ensures.ok
    (if_err_both _ _ c.keys.result c.keys.ensures.err c.keys.ensures.why) (λ _ did. (refl, did)) (λ _ stopped. stopped)

pub returns-in-Some-enrol-default-clause-ends : goal.returns-in-Some-enrol-default-clause-ends
returns-in-Some-enrol-default-clause-ends g c =
    command_with_answer_ends Enrol _ _ _ c.in-Some-enrol-default.ensures.name c.in-Some-enrol-default.ensures.rows
    c.in-Some-enrol-default.is-enrol _ _ _ _ _ (λ _. 0) c.enrol.result c.done-in-Some-enrol-default.result
    c.done-in-Some-enrol-default.ensures c.enrol.ensures.ok
    (if_err_both _ _ c.enrol.result c.enrol.ensures.err c.enrol.ensures.why) (λ _ did. (refl, did)) (λ _ stopped. stopped)

pub returns-in-Some-code-default-clause-ends : goal.returns-in-Some-code-default-clause-ends
returns-in-Some-code-default-clause-ends g c =
    command_with_answer_ends Code _ _ _ c.in-Some-code-default.ensures.name c.in-Some-code-default.ensures.rows
    c.in-Some-code-default.is-code _ _ _ _ _ (λ _. 0) c.code.result c.done-in-Some-code-default.result
    c.done-in-Some-code-default.ensures c.code.ensures.ok
    (if_err_both _ _ c.code.result c.code.ensures.err c.code.ensures.why) (λ _ did. (refl, did)) (λ _ stopped. stopped)

pub returns-in-Some-verify-default-clause-ends : goal.returns-in-Some-verify-default-clause-ends
returns-in-Some-verify-default-clause-ends g c =
    command_with_answer_ends Verify _ _ _ c.in-Some-verify-default.ensures.name c.in-Some-verify-default.ensures.rows
    c.in-Some-verify-default.is-verify _ _ _ _ _ answer_status c.verify.result c.answered.result c.answered.ensures c.verify.ensures.ok
    c.verify.ensures.err
    (λ passed did. (passed, refl, did)) (λ _ stopped. stopped)

pub returns-in-Some-unlock-default-clause-ends : goal.returns-in-Some-unlock-default-clause-ends
returns-in-Some-unlock-default-clause-ends g c =
    command_with_answer_ends Unlock _ _ _ c.in-Some-unlock-default.ensures.name c.in-Some-unlock-default.ensures.rows
    c.in-Some-unlock-default.is-unlock _ _ _ _ _ (λ _. 0) c.unlock.result c.done-in-Some-unlock-default.result
    c.done-in-Some-unlock-default.ensures c.unlock.ensures.ok
    (if_err_both _ _ c.unlock.result c.unlock.ensures.err c.unlock.ensures.why) (λ _ did. (refl, did)) (λ _ stopped. stopped)

pub returns-in-Some-login-default-clause-ends : goal.returns-in-Some-login-default-clause-ends
returns-in-Some-login-default-clause-ends g c =
    command_with_answer_ends Login _ _ _ c.in-Some-login-default.ensures.name c.in-Some-login-default.ensures.rows
    c.in-Some-login-default.is-login _ _ _ _ _ answer_status c.login-passed.result.0 c.answered-in-Some-login-default.result
    c.answered-in-Some-login-default.ensures c.login-passed.ensures.ok c.login-passed.ensures.err
    (λ passed did. (passed, refl, did)) (λ _ stopped. stopped)

pub returns-in-Some-hall-default-clause-ends : goal.returns-in-Some-hall-default-clause-ends
returns-in-Some-hall-default-clause-ends g c =
    command_with_answer_ends Hall _ _ _ c.in-Some-hall-default.ensures.name c.in-Some-hall-default.ensures.rows
    c.in-Some-hall-default.is-hall _ _ _ _ _ (λ _. 0) c.hall-ended.result.0 c.done-in-Some-hall-default.result
    c.done-in-Some-hall-default.ensures c.hall-ended.ensures.ok
    c.hall-ended.ensures.err (λ _ did. (refl, did)) (λ _ stopped. stopped)

pub returns-in-Some-audit-default-clause-ends : goal.returns-in-Some-audit-default-clause-ends
returns-in-Some-audit-default-clause-ends g c =
    command_with_status_ends Audit _ _ _ c.in-Some-audit-default.ensures.name c.in-Some-audit-default.ensures.rows
    c.in-Some-audit-default.is-audit _ _ _ _ _ c.audit.result c.audit.ensures.printed (if_err_both _ _ c.audit.result
    c.audit.ensures.err c.audit.ensures.why)
    (λ _ did. did) (λ _ stopped. stopped)

pub returns-in-Some-report-default-clause-ends : goal.returns-in-Some-report-default-clause-ends
returns-in-Some-report-default-clause-ends g c =
    command_with_status_ends Report _ _ _ c.in-Some-report-default.ensures.name c.in-Some-report-default.ensures.rows
    c.in-Some-report-default.is-report _ _ _ _ _ c.report.result.0 c.report.ensures.printed c.report.ensures.stops (λ _ did. did)
    (λ _ stopped. stopped)

pub returns-in-Some-upgrade-default-clause-ends : goal.returns-in-Some-upgrade-default-clause-ends
returns-in-Some-upgrade-default-clause-ends g c =
    command_with_status_ends Upgrade _ _ _ c.in-Some-upgrade-default.ensures.name c.in-Some-upgrade-default.ensures.rows
    c.in-Some-upgrade-default.is-upgrade _ _ _ _ _ c.upgrade.result c.upgrade.ensures.printed (if_err_both _ _ c.upgrade.result
    c.upgrade.ensures.err c.upgrade.ensures.why)
    (λ _ did. did) (λ _ stopped. stopped)

pub unreachable-requires : goal.unreachable-requires
unreachable-requires g c = elim c.in_default.branch [
  | in_default-via-in-Some+in_default w ↦
      found_command_is_known _ w.in_default.field-0.0.now c.requires (rw w.in_default.is at c.subcommand.ensures.name) (
        search rules,
        search rules,
        search rules,
        search rules,
        search rules,
        search rules,
        search rules,
        search rules,
        search rules,
        search rules,
      )
  | in_default-via-in_default w ↦ found_command_has_name _ c.requires (rw w.in_default.is at c.subcommand.ensures.name)
]
