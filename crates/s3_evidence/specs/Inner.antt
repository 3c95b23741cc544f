-- What the contracts of a run and of a session don't reach.
pub mod About
pub mod Looks
