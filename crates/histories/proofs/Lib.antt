-- ---- the theorems over any history (specs/History), each in a file; what it stands on is in the folder of its name, and in Calls
-- "as long as that heading has not been cleared, the file's text, level and write inhibition stay": `pen-stays`
pub mod PenStays
-- "Clearing happens only when its last entry goes. A later file in the same record is another file.": `cleared-last`, `another-file`
pub mod ClearedLast
-- "A sweep clears exactly what no chain of entries from any user's base files reaches": `reach-stays`, `cleared-unreached`
pub mod ReachStays
-- "Destroy a file everywhere": a capped sheet is never destroyed: `capped-fourteen`, `never-destroyed`
pub mod NeverDestroyed
-- nobody learns a byte of a file that is read-inhibited in its heading: `seal-stays`, `seal-gone`
pub mod SealStays
-- "Read part of a sheet": a part never shows a byte of another file: `part-own`
pub mod PartOwn
-- "Copies must not drop a level": `no-copy-drops`, `level-kept`
pub mod LevelKept
-- "Soundness says that both are true": the counts, after every mend and every call from there on, none cut: `counts-after`, `counts-mended`
pub mod CountsTrue
-- the tables between the stores of a call are those after it is cut: `between-stores`, `heads-between`
pub mod BetweenStores
-- ---- one call
pub mod Calls
