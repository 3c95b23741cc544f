-- Definitions that the contracts of a run and of a session don't need. Inner functions, proofs and other calls use them.
pub mod BufferLending
pub mod Buffers
pub mod Lending
pub mod Loads
pub mod Places
