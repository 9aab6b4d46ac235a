pub mod Listed
pub mod Stage
pub mod Counts
pub mod Counted
pub mod Corrected
pub mod Allowed
pub mod Tally
