-- What the contracts of a run and of a session don't reach: the diagnostics of a source, the columns to blame, and words.
pub mod Changes
pub mod Columns
pub mod Entries
pub mod Marks
pub mod Names
pub mod OwnMarks
pub mod Sources
pub mod Tested
pub mod Words
