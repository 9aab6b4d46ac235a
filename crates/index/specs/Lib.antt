pub mod Judged
pub mod Shown
