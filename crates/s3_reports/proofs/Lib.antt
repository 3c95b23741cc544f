mod Reaching
mod Writing
