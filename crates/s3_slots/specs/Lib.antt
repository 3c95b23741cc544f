pub mod Header
pub mod Labels
pub mod Making
pub mod Placement
pub mod Slots
pub mod Stretches
pub mod Inner
