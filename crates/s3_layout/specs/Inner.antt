-- What the contracts of a run and of a session don't reach: words of inner functions, of proofs and of other calls.
pub mod Files
pub mod Entries
pub mod Kinds
pub mod Columns
pub mod Layouts
pub mod Refusals
