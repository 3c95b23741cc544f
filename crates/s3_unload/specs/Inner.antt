-- Definitions that the contracts of a run and of a session don't need. Inner functions, proofs and other calls use them.
pub mod Fixed
pub mod Found
pub mod Hidden
pub mod Opened
pub mod Ordered
pub mod Refusals
pub mod Tables
pub mod Unloads
pub mod Lines
