-- ---- the theorems, each in a file; what it stands on is in the folder of its name. Demand 2 is the contracts themselves, of `elephant`.
-- demand 1: `answered` (its argument and link too), `refusal-lends`, `names-done`, `stop-cuts`, `del-leaves`, `del-stops`
pub mod Answered
-- demand 1 of mending: `mend-answered`
pub mod MendAnswered
-- the stop number matters only where it is reached: `stop-same`
pub mod Stops
-- a sound table stays sound: `sound-kept`
pub mod SoundKept
-- mending: `mend-nothing`, `mend-sound`, `mend-enough`, `mend-again`, `mended-true`, `brought-up`
pub mod Mending
-- the counts after an entry's store: `three`, `recounts-few`, `named-after`, `held_after`; and what they tell: `lost-count`
pub mod Recounting
-- demand 3: `demand-three`
pub mod PowerCut
-- the listing: `directory-listing`, `base-listing`
pub mod Listed
-- the tree: `depth-one`, `first-line`, `shallower`
pub mod Tree
-- where entries stand: `entry-stood`, `others-stay`, `destroyed-entries`
pub mod Standing
-- give and take: `nobody-more`, `never-displaces`
pub mod Received
-- parts of a sheet: `parts_join`, `part-shown`, `part-read`, `dashes-whole`, `octal-asked`
pub mod Parts
-- a file destroyed: `destroyed-everywhere`
pub mod Destroyed
-- a file rewritten: `rewrite-stores`, `rewrite-when`, `rewrite-read`
pub mod Rewrites
-- lines and texts longer than any that is read: `requested-cut`
pub mod Long
-- ---- what several of them stand on
-- soundness as a record of clauses
pub mod Sound
-- a request read, walked and ended
pub mod Request
-- a request tried on a sound table, where soundness kept and the power cut meet
pub mod Tried
