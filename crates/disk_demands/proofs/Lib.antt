-- ---- the theorems over the definitions of `disk`, each in a file
-- "mending x answers 0 and gives t or t', byte for byte, and it is t' once the entry is there": `on-disk`, `one_entry`
pub mod OnDisk
-- DEL and DST of several names, "name by name": `del-steps`
pub mod ByName
-- `WRS*` has phases of its own: `rewrite-on-disk`
pub mod Rewriting
-- so has DST: `destroy-on-disk`
pub mod Destroying
-- "The same for mending itself: any part of its stores, in any order, mended again, ends as the whole": `mend-any`
pub mod MendAny
-- fewer flushes fail, computed: `first-flush`, `entry-flush`, `del-flush`, `dst-flush`, `mark-flush`, `unmark-flush`
pub mod Flushes
-- ---- what they stand on
-- a heading with other counts
pub mod OnlyCounts
-- each record's turn, and its phase
pub mod Turns
-- a table in order, mended
pub mod Mended
