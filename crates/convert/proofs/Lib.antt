pub mod Names
pub mod Passes
pub mod Looked
pub mod Conversions
