-- A suspended run: its requests and its continuation.
pub mod Inner
