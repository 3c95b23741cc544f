mod Appending
mod CallLemmas
mod Checked
mod Few
mod Goodness
mod Highest
mod InMemory
pub mod Indexes
mod KeyNumbers
mod MergeSteps
mod Merging
mod Order
mod Ordered
mod Places
mod Sectors
pub mod Unused
