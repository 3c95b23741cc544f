-- Definitions that the contracts of a run and of a session don't need. Inner functions, proofs and other calls use them.
pub mod Beginning
pub mod Chaining
pub mod Fits
pub mod Groups
pub mod Held
pub mod Indicating
pub mod Indicators
pub mod Places
pub mod Constants
pub mod Moves
pub mod Performing
pub mod Texts
pub mod Words
