-- What a desk and a hall do, in the order in which to read it: what a client does, which of its lines are due, a session, attempts that
-- were judged, the runs of a desk and of a hall, what is true of all runs, and how a client is served.
pub mod Events
pub mod ChallengedLogin
pub mod Sessions
pub mod DueLines
pub mod Bounds
pub mod Runs
pub mod SavedCalls
pub mod Desks
pub mod OpenSessions
pub mod Halls
pub mod Records
pub mod AcceptedLogins
pub mod Alone
pub mod Faults
pub mod Stops
pub mod Passes
pub mod Saved
pub mod Changes
pub mod Inputs
pub mod Clocks
pub mod Outputs
pub mod Serves
pub mod inner
-- what contracts of this crate speak of, for callers that do not list the crates below
pub use Rattle.otp_core.specs.Ranges.{IsMoment}
pub use Rattle.otp_core.specs.Attempt.{CodeTexts, texts_of}
pub use Rattle.otp_core.specs.Attempt.CodeTexts.{one_text, two_texts}
pub use Rattle.otp_core.specs.declared.token.reply.Reply.{Reply}
pub use Rattle.otp_core.specs.declared.token.reply.Reply.TheVariants.{Pass, Fail, Locked}
