-- what a layout owes, and that both of ours do: `old-lawful`, `six-lawful`, `old-exact`, `six-exact`
pub mod OldNames
pub mod Lawful
-- the lengths of names, and of records that are moved: `fits-to`, `fits-from`
pub mod Lengths
-- two records that show the same, each by its layout
pub mod Twin
-- tables and stores of such records
pub mod Twins
-- what such tables show alike
pub mod Shown
-- soundness by any layout, taken apart
pub mod Clauses
-- .. and that they are sound together: `sound-twin`
pub mod Sound
-- outcomes that are the same, and the plans that lead to them
pub mod Outcomes
-- every mend: `mending-twin`
pub mod Mending
-- a walk, and the lines of a listing and of a tree
pub mod Walk
pub mod Listing
-- the stores of plans, and the plans
pub mod Stores
pub mod Plans
-- name by name; and every request: `requested-twin`
pub mod Deleting
pub mod Requests
-- a table and its conversion: `there_and_back`, `sound-converted`
pub mod Converted
-- a sound table is legible: `old-legible`, `six-legible`
pub mod SoundReads
-- every request and every mend: `requests-follow`, `mends-follow`; the call: `converts-back`, `answers-alike`
pub mod Answers
-- any sequence of calls: `shown-alike`, `after-converted`; and for document 01's names and document 02's: `six-and-back`, `as-on-the-old`,
-- `ever-as-on-the-old`
pub mod Histories
