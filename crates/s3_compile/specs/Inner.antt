-- Definitions that the contracts of a run and of a session don't need. Inner functions, proofs and other calls use them.
pub mod Compiles
pub mod Defines
pub mod Noted
pub mod Chains
pub mod Reaching
