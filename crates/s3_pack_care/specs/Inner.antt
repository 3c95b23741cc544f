-- Definitions that the contracts of a run and of a session don't need. Inner functions, proofs and other calls use them.
pub mod Copied
pub mod Deleted
pub mod Frames
pub mod Kept
pub mod Keys
pub mod Rows
pub mod Sorted
