-- What the contracts of a run and of a session don't reach: rules of replies, and lines that are typed.
pub mod Words
pub mod Rules
pub mod Typed
pub mod Reading
pub mod Listed
