pub mod Halts
pub mod Replies
pub mod Table
pub mod Inner
