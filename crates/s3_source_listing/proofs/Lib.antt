pub mod MessageLemmas
pub mod NoteLemmas
