-- Definitions that the contracts of a run and of a session don't need. Inner functions, proofs and other calls use them.
pub mod Literals
pub mod MarkSamples
pub mod Parts
pub mod Progress
pub mod RuleViews
pub mod Rules
pub mod Samples
pub mod Sheets
