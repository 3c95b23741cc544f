pub mod Keeping
pub mod Reading
pub mod Ahead
pub mod Blanks
