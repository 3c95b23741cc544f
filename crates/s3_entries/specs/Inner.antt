-- Definitions that the contracts of a run and of a session don't need: the columns of entries.
pub mod Spans
