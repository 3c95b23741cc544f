mod Following
mod Growing
mod Over
mod Reporting
pub mod Asking
pub mod Cases
pub mod Days
pub mod Halting
pub mod Halts
pub mod Moments
pub mod Operating
pub mod Rounds
pub mod Sittings
