-- What the contracts of a run and of a session don't reach: decks punched from plain text.
pub mod Cards
pub mod Characters
pub mod Decks
pub mod Ebcdic
pub mod Faults
pub mod Parts
pub mod Pieces
pub mod Steps
pub mod Stops
pub mod Typed
