-- Definitions that the contracts of a run and of a session don't need. Inner functions, proofs and other calls use them.
pub mod Codes
pub mod Deck
pub mod Levels
pub mod NamedCodes
pub mod Numbers
pub mod Printed
