pub mod Verdicts
pub mod Functions
pub mod Numbers
pub mod Ties
