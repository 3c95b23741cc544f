pub mod Asked
pub mod Opening
pub mod Inner
