pub mod Turned
pub mod Looked
