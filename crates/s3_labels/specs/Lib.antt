pub mod Areas
pub mod Contents
pub mod Untangled
pub mod Inner
