-- What the contracts of a run and of a session don't reach: words of inner functions, of proofs and of other calls.
pub mod PageTexts
pub mod Pages
pub mod PagesLeft
pub mod Parts
pub mod Shown
pub mod Sizes
pub mod Bodies
pub mod Documents
pub mod Drawing
pub mod Forms
pub mod Objects
pub mod Tables
