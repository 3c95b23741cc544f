pub mod Files
pub mod Firsts
pub mod Places
pub mod Told
