pub mod Sheet
pub mod Refusal
pub mod Told
pub mod Filing
pub mod Reading
pub mod Lamp
