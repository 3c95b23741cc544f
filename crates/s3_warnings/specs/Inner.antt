-- What the contracts of a run and of a session don't reach: warnings.
pub mod Contradictions
pub mod Entries
pub mod Facts
pub mod Files
pub mod Indicators
pub mod Marking
pub mod Overlaps
pub mod Results
pub mod Samples
pub mod Shown
pub mod Warnings
pub mod Words
