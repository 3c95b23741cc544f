-- Definitions that the contracts of a run and of a session don't need. Inner functions, proofs and other calls use them.
pub mod Beginning
pub mod BeginningEnvironment
pub mod Choice
pub mod Controls
pub mod Fields
pub mod Heads
pub mod Holding
pub mod Keys
pub mod Laws
pub mod LevelField
pub mod Levels
pub mod Reading
pub mod Selecting
pub mod Types
