pub mod Shown
pub mod Free
