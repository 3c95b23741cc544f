-- Definitions that the contracts of a run and of a session don't need. Inner functions, proofs and other calls use them.
pub mod Early
pub mod Mismatched
pub mod Misplaced
pub mod Order
pub mod Ranged
pub mod Samples
pub mod Sampling
pub mod Shown
pub mod Strayed
pub mod Whole
pub mod WholeSamples
