-- What the contracts of a run and of a session don't reach: the stops of tabs and the entries beside the rules of the sheets.
pub mod Entries
pub mod Starts
