-- Definitions that the contracts of a run and of a session don't need. Inner functions, proofs and other calls use them.
pub mod Asked
pub mod Formats
pub mod Lines
pub mod Samples
