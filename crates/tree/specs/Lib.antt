pub mod Shown
pub mod Gathered
