-- What the contracts of a run and of a session don't reach: values of JSON, their lines, and characters.
pub mod Characters
pub mod Values
