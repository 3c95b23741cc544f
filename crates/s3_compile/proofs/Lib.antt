mod NoteLemmas
mod NameLemmas
mod Labelling
mod Righting
mod Meanings
mod Ranging
mod CallWalks
mod Knowing
mod Clearing
mod Defining
mod Accepting
pub mod ChainLemmas
pub mod CircleLemmas
pub mod ReachLemmas
