pub mod BlockLemmas
pub mod BlocksLemmas
pub mod QueueLemmas
