-- the records one by one: names, each kind's test, the clauses that they show
pub mod Tests
pub mod Ranges
pub mod Names
pub mod Shapes
pub mod Clauses
-- text, by slots that are marked once
pub mod Sums
pub mod Slots
pub mod Text
pub mod TextTurns
-- a table without some records
pub mod Mask
-- names borne twice and places crowded, by chains of entries
pub mod Lasts
pub mod Chains
pub mod Twins
pub mod Order
pub mod Crowds
pub mod Literal
-- soundness from these
pub mod Sound
-- one pass: what each kind of record adds, and what it shows at its end
pub mod Pass
-- headings named and the counts that they say
pub mod Counts
