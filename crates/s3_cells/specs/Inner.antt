-- What the contracts of a run and of a session don't reach: words of inner functions, of proofs and of other calls.
pub mod Texts
pub mod Numbers
pub mod Marks
pub mod Dates
pub mod Values
pub mod Refusals
pub mod Fields
pub mod Styles
