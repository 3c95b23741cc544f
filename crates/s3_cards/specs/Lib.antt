pub mod Codes
pub mod Deck
pub mod Names
pub mod Numbers
pub mod Printed
pub mod Inner
