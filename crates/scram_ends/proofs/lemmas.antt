-- Main lemma, `accepts_exactly_valid` (Verdicts): acceptance is due if and only if the login is valid.
-- Cited by the law of that name, in DueMessages, and by login_laws and outcome_laws of `log_grammar`. Read in this order:
-- Opening: two texts open a login in at most one way. Verdicts: at most one verdict is due. Decided: some verdict is due.
-- Servers: the challenge that a server sends opens a login. Challenges: which challenges a client answers.
-- Written: what a server writes is within the limits. client_messages: what a client writes. HonestLogins: honest logins succeed.
-- ReadyMacs: what is known of keys that are kept ready. Usual: messages without extensions, which are compared and not read.
-- Stateless: the verdict on a login that is judged in one call.
-- DueMessages: the message due makes a valid login if and only if it accepts; `ServerWait::judge` and `ServerWait::finish` cite it.
pub mod Challenges
pub mod client_messages
pub mod Decided
pub mod DueMessages
pub mod HonestLogins
pub mod Opening
pub mod ReadyMacs
pub mod Servers
pub mod Stateless
pub mod Usual
pub mod Verdicts
pub mod Written
