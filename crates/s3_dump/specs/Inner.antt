-- What the contracts of a run and of a session don't reach: words of inner functions, of proofs and of other calls.
pub mod Dumps
pub mod Entries
pub mod Indexes
pub mod Notes
pub mod Writing
