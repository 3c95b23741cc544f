pub mod FileFrames
pub mod PartLemmas
pub mod RecordLemmas
pub mod Rooms
mod SectorLemmas
mod Stretched
