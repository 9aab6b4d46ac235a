pub mod Asked
pub mod Tied
