-- A command with one more option, and the program with one more command.
use Rattle.std.proofs.Common.{◌≡◌, ◌∙◌, ◌++◌, ◌∷◌, [], ◌||◌, Bool, List, ℕ, false, ap, ap₂}
use Rattle.clap.specs.Words.{AddsArg, AddsSubcommand, App, Rule, app_of, new_app, rule_of, with_rule, with_subcommand}
use Rattle.clap.specs.declared.builder.arg.Arg.{Arg}
use Rattle.clap.specs.declared.builder.command.Command.{Command}
use Rattle.clap.specs.declared.builder.command.Command.TheViews.{out-Command as fields_of}
use Rattle.command_words.specs.Commands.{command, HasOptions}

-- a new command with its help texts has its name and no options
pub new_command_has_no_options : (name : List ℕ) (new about after : Command) → app_of new ≡ new_app name
    → (fields_of new).has_globals ≡ false
    → app_of about ≡ app_of new → (fields_of about).has_globals ≡ (fields_of new).has_globals
    → app_of after ≡ app_of about → (fields_of after).has_globals ≡ (fields_of about).has_globals → HasOptions name [] after
new_command_has_no_options name new about after is local about_is about_local after_is after_local =
    (after_is ∙ about_is ∙ is, after_local ∙ about_local ∙ local)

-- a command with one more argument has one more option
pub command_has_added_option : (name : List ℕ) (options : List Rule) (option : Rule) (old new : Command) (arg : Arg) → AddsArg old arg new
    → rule_of arg ≡ option
    → arg.global ≡ false → HasOptions name options old → HasOptions name (options ++ option ∷ []) new
command_has_added_option name options option old new arg added is local (has, globals) =
    (added.shape local ∙ ap₂ with_rule has is, added.globals ∙ ap₂ (λ (old : Bool) (new : Bool). old || new) globals local)

-- an app with one more command has that command's name and options too
pub app_has_added_command : (app : App) (name : List ℕ) (options : List Rule) (old sub new : Command) → AddsSubcommand old sub new
    → app_of old ≡ app
    → HasOptions name options sub → app_of new ≡ with_subcommand app (command name options)
app_has_added_command app name options old sub new added is (has, globals) =
    added.shape globals ∙ ap₂ with_subcommand is (ap (λ (a : App). a.top) has)
