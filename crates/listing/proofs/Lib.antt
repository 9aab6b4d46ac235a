pub mod Sizes
pub mod Inserted
pub mod Written
pub mod Promised
