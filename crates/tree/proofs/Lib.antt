mod Chained
mod Lines
mod Places
mod Answers
pub mod Promised
