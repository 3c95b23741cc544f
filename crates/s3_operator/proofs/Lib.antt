pub mod CodeLemmas
pub mod HaltLemmas
