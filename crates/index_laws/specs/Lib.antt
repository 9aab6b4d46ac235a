pub mod Judged
pub mod Climbs
pub mod Repaired
pub mod Scanned
