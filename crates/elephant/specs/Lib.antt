pub mod Done
pub mod Walks
pub mod Reading
pub mod Filing
pub mod Removed
pub mod Meant
pub mod Entrance
pub mod Admitted
