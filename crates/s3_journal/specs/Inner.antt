-- What the contracts of a run and of a session don't reach: what the lines of a journal say, which line a pack is of, and what a crash
-- leaves of a journal and a pack.
pub mod Days
pub mod Members
pub mod Digests
pub mod Views
pub mod Lines
pub mod Written
pub mod Journals
pub mod Decks
pub mod Posted
pub mod Saved
pub mod Crashes
