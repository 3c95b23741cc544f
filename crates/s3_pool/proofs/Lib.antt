pub mod Laid
pub mod Steps
