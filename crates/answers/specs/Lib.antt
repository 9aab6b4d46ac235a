pub mod Number
pub mod Shown
pub mod Promised
