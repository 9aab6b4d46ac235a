-- ---- what a sweep promises, each theorem in a file
-- what is reached, closed and monotone; and that it is what a chain of any length reaches: `chain-reached`, `reached-chain`
pub mod Reach
pub mod Chain
-- what a sweep leaves: `live-each`, `live-twice`, `live-mono`; nothing to mend there but counts: `live-still`
pub mod Live
pub mod Still
-- between the table and what a sweep leaves, mended and swept again: `cut-any`
pub mod Again
-- sound after it, and after the mend of one cut: `swept-right`, `cut_right`
pub mod Quiet
pub mod Lesser
pub mod Texts
pub mod Sound
-- the call: `sweep-came`, `sweep_sound`, `swept-exactly`, `sweep-again`, `sweep-cut`
pub mod Calls
-- what a disk may hold when the power fails in a sweep: `disk-right`, `disk-again`
pub mod OnDisk
