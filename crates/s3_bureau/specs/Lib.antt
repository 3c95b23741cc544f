pub mod Entries
pub mod Runs
pub mod Script
pub mod Sharing
pub mod Texts
pub mod Inner
