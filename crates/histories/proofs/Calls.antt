-- One call, cut anywhere: what the stores of a request may be, what a mend may clear, and so what is left of a heading and its text.
-- Every table of a history from a sound one mends to a sound one.
-- a request: its stores, each plan's shape, its ways
pub mod Stores
pub mod Shapes
pub mod Ways
-- stores that only take away; and stores at any place
pub mod Falls
pub mod Anywhere
-- what stays: a file held in its place; what a request, and a mend, may do
pub mod Held
pub mod Moved
pub mod Requests
pub mod Tidied
pub mod Mends
pub mod Sweeps
-- every table of a history
pub mod Mendable
