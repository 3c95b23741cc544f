-- What the contracts of a run and of a session don't reach: the objects of a deck in JSON.
pub mod Objects
