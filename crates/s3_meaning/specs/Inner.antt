-- Definitions that the contracts of a run and of a session don't need. Inner functions, proofs and other calls use them.
pub mod CalculationCorners
pub mod FileCorners
pub mod Fitting
pub mod LevelCorners
pub mod LineCorners
pub mod MatchingCorners
pub mod ReplyCorners
pub mod Requests
pub mod Samples
pub mod SheetWords
