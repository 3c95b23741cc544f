mod Placed
pub mod Walks
mod Sampled
mod Ordering
mod Wholes
mod Told
mod Misplacing
mod Straying
mod Keyed
mod Mismatching
mod WholeSampled
