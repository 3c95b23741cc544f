pub mod Files
pub mod Indicators
pub mod Ranges
pub mod Reserved
pub mod Inner
