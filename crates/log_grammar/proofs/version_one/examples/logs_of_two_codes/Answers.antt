use Rattle.log_grammar.proofs.lemmas.small_logs.TwoCodes.{first_counter_is_at_fault, totp_pass_is_at_fault}
use Rattle.log_grammar.proofs.lemmas.reply_laws.Passed.{next_two_hotp_codes_pass}
use Rattle.log_grammar.proofs.version_one.examples.logs_of_two_codes.Goals as goal

pub returns-clause-passes : goal.returns-clause-passes
returns-clause-passes c = next_two_hotp_codes_pass

pub returns-clause-first_counter : goal.returns-clause-first_counter
returns-clause-first_counter c = first_counter_is_at_fault

pub returns-clause-of_totp : goal.returns-clause-of_totp
returns-clause-of_totp c = totp_pass_is_at_fault
