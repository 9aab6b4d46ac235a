pub mod Shown
pub mod Refused
pub mod Runs
