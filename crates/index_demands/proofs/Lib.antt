-- ---- what the index promises, each theorem in a file
-- a rank gives directory, user and name back: `rank-bears`, `rank-once`
pub mod Ranks
-- a sound table has no rank twice, so the linear test is the definition: `sound-apart`, `sound-judged`
pub mod Apart
-- a request: `one_index`, `kept-as-before`, `unfit-as-before`, `not-true-26`, `only-26`, `stays-true`, `cut-as-lent`
pub mod Requests
-- where a box begins: `free-good`
pub mod Free
-- looking a name up: `scan-answer`
pub mod Answers
-- a mend: `length-alone`, `mend-any`, `mend-as-lent`
pub mod Mends
-- any calls, sweeps among them: `kept-called`, `mend-cures`, `mend-true`, `never-26`
pub mod Histories
