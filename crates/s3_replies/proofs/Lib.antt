pub mod Answering
pub mod WordLemmas
pub mod ReadingLemmas
pub mod ListLemmas
pub mod LetterLemmas
