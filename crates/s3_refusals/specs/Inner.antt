-- What the contracts of a run and of a session don't reach: words of refusals.
pub mod Calls
pub mod Packs
