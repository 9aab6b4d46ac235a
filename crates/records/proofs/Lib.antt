pub mod Stretches
pub mod Shares
pub mod Order
pub mod Copies
pub mod Packed
pub mod Builds
pub mod Said
pub mod Numbered
