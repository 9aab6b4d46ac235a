pub mod FirstWord
pub mod Box
pub mod Shows
pub mod Spelled
pub mod Uncut
