pub mod Lines
pub mod Serving
pub mod Solo
pub mod World
pub mod Inner
