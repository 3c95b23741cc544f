pub mod Records
pub mod Inner
