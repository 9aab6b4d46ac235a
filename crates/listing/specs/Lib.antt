pub mod Shown
pub mod Ordered
