-- Definitions that the contracts of a run and of a session don't need. Inner functions, proofs and other calls use them.
pub mod Conditions
pub mod Distinct
pub mod Given
pub mod Labels
pub mod Meant
pub mod Positions
pub mod Samples
pub mod Stands
pub mod Started
pub mod Starts
pub mod Tables
pub mod Translation
pub mod Uses
pub mod Valid
