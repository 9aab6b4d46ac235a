-- tests, numbers in bytes and in digits, scans and counts, lists
pub mod Tests
pub mod Numbers
pub mod Digits
pub mod Scans
pub mod Counts
pub mod Lists
-- names and entries, six-bit names, records built and read, blocks of text
pub mod Entries
pub mod Packing
pub mod Fields
pub mod Blocks
-- a table: one store, a list of stores, records laid by a test, counts corrected, its free records
pub mod Lay
pub mod Rewritten
pub mod Runs
pub mod Fills
pub mod Recounts
pub mod Rooms
-- soundness taken apart, and the order of a listing
pub mod Sound
pub mod Orders
