pub mod Bytes
pub mod Contents
pub mod Stretches
pub mod Inner
