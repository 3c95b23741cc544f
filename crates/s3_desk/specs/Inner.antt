-- What the contracts of a run and of a session don't reach: words of inner functions, of proofs and of other calls.
pub mod Calls
pub mod Days
pub mod Desk
pub mod Events
pub mod Moments
pub mod Operated
pub mod Printing
pub mod Rounds
