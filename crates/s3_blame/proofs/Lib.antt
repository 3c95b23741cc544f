pub mod NameLemmas
pub mod OwnLemmas
pub mod PartLemmas
pub mod Shown
pub mod SourceLemmas
pub mod TableLemmas
pub mod TestedLemmas
