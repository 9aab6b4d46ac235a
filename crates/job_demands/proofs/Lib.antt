-- a request with no store to make
pub mod Still
-- the two lines, as the box reads them
pub mod Bare
pub mod Closed
pub mod Heard
pub mod Lines
-- the lamp: its refusals, the sheets in their turn, the light
pub mod Bringing
pub mod Admitting
pub mod Turns
pub mod Green
-- reading back on a sound table: one sheet filed, what it keeps, the walk after it, the job, the lamp
pub mod Kept
pub mod Walks
pub mod Laid
pub mod Counted
pub mod Filed
pub mod FileOne
pub mod ReadOne
pub mod Proper
pub mod JobFiled
pub mod ReadBack
pub mod Twelve
-- a cut, mended
pub mod Cut
-- with an index: one request, the job
pub mod Asked
pub mod Indexed
pub mod Untrue
