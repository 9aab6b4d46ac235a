pub mod Cases
pub mod Conversions
