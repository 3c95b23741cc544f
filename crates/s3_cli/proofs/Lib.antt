mod Answering
mod Lines
