pub mod Parts
pub mod Seeks
