pub mod KindLemmas
mod WalkLemmas
