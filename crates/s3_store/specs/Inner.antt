-- Definitions that the contracts of a run and of a session don't need. Inner functions, proofs and other calls use them.
pub mod Bytes
pub mod Calls
pub mod Contents
pub mod Failures
pub mod Fuse
pub mod State
