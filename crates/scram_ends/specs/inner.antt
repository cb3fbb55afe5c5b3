-- What a server takes from a client-first message, what its functions hand to each other, and what its writers answer. For private
-- functions only: no public contract cites these files.
pub mod Stateless
pub mod TakenFirst
pub mod Ready
pub mod Written
