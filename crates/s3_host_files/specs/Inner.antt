-- What the contracts of a run and of a session don't reach: how a new pack gets its name, after which saves the file is the new pack,
-- and the names of streams.
pub mod Naming
pub mod Saves
pub mod Streams
