-- Codes and their hash functions, and the bounds of all numbers; attempts, the window and the reply that is due; histories, and how a token
-- changes; laws.
pub mod Ranges
pub mod Code
pub mod Hash
pub mod Attempt
pub mod Window
pub mod Reply
pub mod History
pub mod State
pub mod TokenAttempt
pub mod TokenRanges
pub mod Fault
pub mod Laws
pub mod inner
