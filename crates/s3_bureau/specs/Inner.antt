-- Definitions that the contracts of a run and of a session don't need. Inner functions, proofs and other calls use them.
pub mod Agreement
pub mod Calls
pub mod CompletedRuns
pub mod Confidentiality
pub mod Faults
pub mod Held
pub mod MigratedRuns
pub mod Queries
pub mod Samples
pub mod Script
pub mod Steps
pub mod Stops
pub mod Underway
pub mod Unwritten
