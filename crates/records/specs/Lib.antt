pub mod Shown
pub mod Counts
pub mod Numbered
pub mod Characters
pub mod Part
