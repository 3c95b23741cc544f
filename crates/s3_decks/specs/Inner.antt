-- What the contracts of a run and of a session don't reach: decks from files.
pub mod Decks
pub mod Days
pub mod Gaps
pub mod Blanks
pub mod Shown
pub mod Strays
pub mod Encodings
