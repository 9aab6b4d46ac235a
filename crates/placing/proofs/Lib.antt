pub mod Moving
pub mod Holding
pub mod Entering
pub mod Meeting
