-- Definitions that the contracts of a run and of a session don't need. Inner functions, proofs and other calls use them.
pub mod Cards
pub mod Jobs
pub mod Sound
pub mod Steps
pub mod Streams
pub mod Words
