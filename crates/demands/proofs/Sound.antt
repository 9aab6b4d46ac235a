-- What a sound table has, for every theorem about one: the computed test as a record of clauses, so that a proof goes clause by clause,
-- what the clauses say of the records that a record points to, and the clauses with the counts.
pub mod Clauses
pub mod Points
pub mod Right
