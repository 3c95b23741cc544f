-- The exit status of a refusal.
pub mod Statuses
