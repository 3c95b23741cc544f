pub mod Diagnostics
pub mod Known
pub mod Lookups
pub mod Inner
