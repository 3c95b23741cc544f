-- What an output is, by its first bytes, which numbers kept packs have, and the exit status of a refusal.
pub mod Kinds
pub mod Numbering
pub mod Statuses
