pub mod Refusals
pub mod Unstored
pub mod Requests
pub mod Mends
