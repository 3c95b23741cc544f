pub mod Asking
pub mod Lister
pub mod SwitchLaw
pub mod Settings
pub mod Replying
pub mod SecondFiles
pub mod SecondSteps
pub mod MigratedStarts
