pub mod DumpLemmas
pub mod IndexLemmas
pub mod NoteLemmas
pub mod WriterLemmas
