pub mod Logging
pub mod Noting
pub mod Replying
