pub mod Calls
pub mod Index
pub mod KeyOrder
pub mod Inner
