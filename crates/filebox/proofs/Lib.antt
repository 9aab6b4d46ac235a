pub mod FirstWord
pub mod Keeping
pub mod Steps
pub mod Spelling
pub mod TrueIndex
