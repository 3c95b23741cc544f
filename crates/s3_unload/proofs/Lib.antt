pub mod Finding
pub mod FixedLemmas
pub mod LineLemmas
pub mod Opening
pub mod RowLemmas
pub mod TableLaws
