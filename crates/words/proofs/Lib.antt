pub mod Tests
pub mod Reaches
pub mod Pieces
pub mod Words
pub mod Names
pub mod Octals
