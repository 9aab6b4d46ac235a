pub mod History
pub mod Copy
