-- What the contracts of a run and of a session don't reach.
pub mod Answering
pub mod Changes
pub mod Logging
pub mod Lost
pub mod PackEnds
pub mod Questions
pub mod Times
