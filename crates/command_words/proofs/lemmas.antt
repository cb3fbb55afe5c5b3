-- Main lemma, `faultless_line_names_command` (Naming): a command line without a fault names one of the program's commands.
-- Cited by Runs of `commands`. Read in this order:
-- Adding: a command with one more option, and the program with one more command.
-- Naming: the command that a command line enters.
pub mod Adding
pub mod Naming
