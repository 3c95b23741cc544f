pub mod Closing
pub mod Files
pub mod Kept
pub mod Records
pub mod Requests
pub mod Inner
