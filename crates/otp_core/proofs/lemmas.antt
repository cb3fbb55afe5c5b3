-- Main lemmas, `some_reply_is_due` (SomeReply) and `at_most_one_reply_is_due` (OneReply): exactly one reply is due to each attempt.
-- Cited by the laws of these names, by demands and kinds of `log_grammar`, and by the steps of `sasl_log`. Read in this order:
-- Digits: the last digits of a number are a code. Windows: where the window of a token begins.
-- LeastFound: the reply for the least counter that fits is due. OneReply: at most one reply is due.
-- LeastNumbers: there is a least number of a decidable kind, or none. SomeReply: some reply is due.
-- AlikePasts: what fits after one of two alike pasts fits after the other. AfterReply: what can pass after a reply.
-- Failures: how a reply changes the failures. Steps: one more attempt keeps two pasts alike; `Token::judge` cites it.
-- Used: what can pass is above what was used. Joins: histories that go on where others led.
pub mod AfterReply
pub mod AlikePasts
pub mod Digits
pub mod Failures
pub mod Joins
pub mod LeastFound
pub mod LeastNumbers
pub mod OneReply
pub mod SomeReply
pub mod Steps
pub mod Used
pub mod Windows
