pub mod CompositionLemmas
pub mod FilledLemmas
pub mod FitLemmas
pub mod LawLemmas
pub mod NumberLemmas
pub mod AmountLemmas
pub mod StartLemmas
