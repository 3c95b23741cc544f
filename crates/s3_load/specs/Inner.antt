-- Definitions that the contracts of a run and of a session don't need. Inner functions, proofs and other calls use them.
pub mod Columns
pub mod Owners
pub mod Settling
pub mod Records
pub mod Filling
pub mod FixedTexts
pub mod KeyOrder
pub mod Loaded
pub mod Shapes
pub mod Tables
pub mod RoundTrip
pub mod Quotes
pub mod Reasons
pub mod Refusals
