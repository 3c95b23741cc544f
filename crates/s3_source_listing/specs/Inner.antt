-- What the contracts of a run and of a session don't reach: what is under a card in a listing, and the messages of a source.
pub mod Messages
pub mod Notes
