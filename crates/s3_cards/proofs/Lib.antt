pub mod CodeLemmas
pub mod DeckLemmas
pub mod NameLemmas
pub mod NumberLemmas
pub mod Trimming
