pub mod Abouts
pub mod Looks
