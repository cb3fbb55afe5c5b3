-- What a run of the program does, in the order in which to read it: `verify`, what a run leaves, `login` and `hall` with the faults that
-- end them, `audit`, `report` and `upgrade`, and the program itself.
pub mod Talked
pub mod SentCodes
pub mod Verify
pub mod Attempts
pub mod LeftBooks
pub mod Nonces
pub mod DeskLog
pub mod PrintedLog
pub mod ClientEnd
pub mod Login
pub mod LoginFaults
pub mod Hall
pub mod Audit
pub mod Report
pub mod Upgrade
pub mod Joined
pub mod Program
pub mod inner
