pub mod Tended
