-- What the contracts of a run and of a session don't reach: words of inner functions, of proofs and of other calls.
pub mod Answering
pub mod Counting
pub mod Endings
pub mod Events
pub mod Lines
pub mod Logged
pub mod Members
pub mod Tested
pub mod Times
pub mod Views
pub mod Written
