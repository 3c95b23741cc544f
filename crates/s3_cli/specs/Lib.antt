pub mod Parts
pub mod Session
pub mod Inner
