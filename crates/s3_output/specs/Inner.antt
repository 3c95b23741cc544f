-- Definitions that the contracts of a run and of a session don't need. Inner functions, proofs and other calls use them.
pub mod Carriages
pub mod Compositions
pub mod Contents
pub mod Lines
pub mod Numbers
pub mod Requests
pub mod Rows
