pub mod BarLemmas
pub mod PartLemmas
pub mod ReadingLemmas
pub mod ScaleLemmas
