-- Main lemma, `each_ok_ends_a_login` (ValidLogins): an `S OK` may stand in a log exactly as the last message of a valid login.
-- Cited by the law of that name in src/version_one/logins.rt; the runs of `sasl_desk` cite `ok_completes_login`, which is one half of it.
-- Read in this order:
-- ValidLogins: the login that an `S OK` completes.
-- NumberedLogins: `S OK` and `S NO` under a number of version 2.
-- CleanLogins: the log of a valid login is clean.
-- PasswordLogins: the messages that log a password in.
-- CodesOfLogin: the codes of a session are for the account that its client-first message names.
-- OtherAnswers: a log with another answer than the one due is at fault.
-- Upgraded: the log of one login, upgraded.
pub mod ValidLogins
pub mod NumberedLogins
pub mod CleanLogins
pub mod PasswordLogins
pub mod CodesOfLogin
pub mod OtherAnswers
pub mod Upgraded
