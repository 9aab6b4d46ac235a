pub mod Phase
pub mod Disk
