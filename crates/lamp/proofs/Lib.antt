-- a sheet's name and its parts
pub mod Sheets
-- the line of a request
pub mod Lines
-- the refusals
pub mod Refusals
-- the sheets in their turn
pub mod Turns
-- the light
pub mod Lights
