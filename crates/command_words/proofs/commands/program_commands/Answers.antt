use Rattle.std.proofs.Common.{◌∙◌, ap, true}
use Rattle.std.proofs.lemmas.Result.{IfOk-weaker}
use Rattle.clap.specs.Simple.{app_of_fields, on_top}
use Rattle.clap.specs.Words.{Shape}
use Rattle.command_words.proofs.lemmas.Adding.{app_has_added_command}
use Rattle.command_words.proofs.commands.program_commands.Goals as goal

pub returns : goal.returns
returns c =
    let new = ap app_of_fields c.in_ok-bin_name.ensures.0 ∙ c.new.ensures.app in
    let versioned = ap app_of_fields c.version.ensures ∙ ap (on_top (λ (s : Shape). record s { has_version = true })) new in
    let told = ap app_of_fields c.after_help.ensures ∙ (ap app_of_fields c.about.ensures ∙ versioned) in
    let wanting = ap app_of_fields c.subcommand_required.ensures ∙ ap
    (on_top (λ (s : Shape). record s { subcommand_required = true })) told in
    let none = ap app_of_fields c.disable_help_subcommand.ensures ∙ ap
    (on_top (λ (s : Shape). record s { disable_help_subcommand = true })) wanting in
    let one = app_has_added_command _ _ _ _ _ _ c.in_ok-subcommand.ensures none c.in_ok-keys.ensures in
    let two = app_has_added_command _ _ _ _ _ _ c.in_ok-subcommand-2.ensures one c.in_ok-enrol.ensures in
    let three = app_has_added_command _ _ _ _ _ _ c.in_ok-subcommand-3.ensures two c.in_ok-code.ensures in
    let four = app_has_added_command _ _ _ _ _ _ c.in_ok-subcommand-4.ensures three c.in_ok-verify.ensures in
    let five = app_has_added_command _ _ _ _ _ _ c.in_ok-subcommand-5.ensures four c.in_ok-unlock.ensures in
    let six = app_has_added_command _ _ _ _ _ _ c.in_ok-subcommand-6.ensures five c.in_ok-login.ensures in
    let seven = app_has_added_command _ _ _ _ _ _ c.in_ok-subcommand-7.ensures six c.in_ok-hall.ensures in
    let eight = app_has_added_command _ _ _ _ _ _ c.in_ok-subcommand-8.ensures seven c.in_ok-audit.ensures in
    let nine = app_has_added_command _ _ _ _ _ _ c.in_ok-subcommand-9.ensures eight c.in_ok-report.ensures in
    IfOk-weaker c.subcommand-10.result _ _
    (λ command added. app_has_added_command _ _ _ _ _ _ added nine c.in_ok-upgrade.ensures) c.subcommand-10.ensures
