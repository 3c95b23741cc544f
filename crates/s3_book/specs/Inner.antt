-- The pages of a book, as parts and as bytes.
pub mod Parts
pub mod Reading
pub mod Reports
pub mod Scale
pub mod Index
