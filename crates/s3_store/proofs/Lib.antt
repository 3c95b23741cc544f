pub mod Calls
pub mod Chunks
pub mod Frames
pub mod SectorLists
pub mod SectorParts
