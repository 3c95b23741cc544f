pub mod Alike
pub mod Writing
pub mod Asking
pub mod Taping
