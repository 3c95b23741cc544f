-- Definitions that the contracts of a run and of a session don't need. Inner functions, proofs and other calls use them.
pub mod Added
pub mod Calls
pub mod Checking
pub mod Index
pub mod KeyOrder
pub mod Keyed
pub mod Samples
pub mod Shape
pub mod Sought
pub mod Unused
