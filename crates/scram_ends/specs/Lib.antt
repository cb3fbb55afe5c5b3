-- Both ends of a login: what an entry has and what is signed, the first two messages, the verdict and a valid login, what a
-- waiting server stands for, why a server or a client refuses, and an honest client.
pub mod Entry
pub mod Stages
pub mod Auth
pub mod Opening
pub mod Verdict
pub mod Login
pub mod Standing
pub mod SigningKeys
pub mod Stateless
pub mod First
pub mod Honest
pub mod Client
pub mod Faults
pub mod Laws
pub mod inner
-- what contracts of this crate speak of, for callers that do not list the crates below
pub use Rattle.mac_core.specs.Mechanism.{name_of, IsOffered}
pub use Rattle.mac_core.specs.declared.mechanism.Mechanism.{Mechanism}
pub use Rattle.mac_core.specs.declared.mechanism.Mechanism.TheVariants.{ScramSha256}
