pub mod Chains
pub mod Ends
