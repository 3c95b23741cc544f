pub mod FileLemmas
pub mod IndicatorLemmas
