pub mod Order
pub mod Left
pub mod Steps
pub mod Rounds
pub mod Corrected
pub mod Answers
