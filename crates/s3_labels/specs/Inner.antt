-- Definitions that the contracts of a run and of a session don't need. Inner functions, proofs and other calls use them.
pub mod AreaNumbers
pub mod Areas
pub mod Images
pub mod Labelled
pub mod Samples
pub mod Written
