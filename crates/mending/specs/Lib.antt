pub mod Found
pub mod Shown
