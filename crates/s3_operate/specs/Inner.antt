-- The exit status of a day.
pub mod Statuses
