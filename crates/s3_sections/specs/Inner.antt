-- Definitions that the contracts of a run and of a session don't need. Inner functions, proofs and other calls use them.
pub mod Courses
pub mod Jumps
pub mod Sections
pub mod Spots
