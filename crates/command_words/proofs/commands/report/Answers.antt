use Rattle.std.proofs.Common.{rules, [], ap, codes}
use Rattle.std.proofs.lemmas.Result.{IfOk-weaker}
use Rattle.clap.specs.Simple.{app_of_fields}
use Rattle.clap.specs.declared.builder.command.Command.{Command}
use Rattle.clap.specs.declared.builder.command.Command.TheOpen.{Command-F}
use Rattle.command_line.specs.declared.option_name.OptionName.TheVariants.{Book, Log, Account, Event}
use Rattle.command_words.specs.Commands.{one_value, required_value, HasOptions}
use Rattle.command_words.proofs.lemmas.Adding.{new_command_has_no_options, command_has_added_option}
use Rattle.command_words.proofs.commands.report.Goals as goal

pub returns : goal.returns
returns c =
    let none : HasOptions (codes "report") [] c.after_help.result = new_command_has_no_options _ _ _ _ c.new.ensures.app c.new.ensures.local
    (ap app_of_fields c.about.ensures) (ap (λ (f : Command-F Command). f.has_globals) c.about.ensures)
    (ap app_of_fields c.after_help.ensures) (ap (λ (f : Command-F Command). f.has_globals) c.after_help.ensures) in
    let one = command_has_added_option _ _ (required_value Book) _ _ _ c.in_ok-arg.ensures (search rules) c.book.ensures.local none in
    let two = command_has_added_option _ _ (required_value Log) _ _ _ c.in_ok-arg-2.ensures (search rules) c.required.ensures.local one in
    let three = command_has_added_option _ _ (one_value Account) _ _ _ c.in_ok-arg-3.ensures (search rules) c.one_value.ensures.local two in
    IfOk-weaker c.arg-4.result _ _ (λ command added. command_has_added_option _ _ (one_value Event) _ _ _ added
    (search rules) c.one_value-2.ensures.local three) c.arg-4.ensures
