pub mod Shown
pub mod Ends
