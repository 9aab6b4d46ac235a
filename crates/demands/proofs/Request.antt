-- A request from its line to its end, on any table or, in `Walked`, on a sound one: checks in number order, so that what passes has
-- what no check refused.
-- read: names and declarations of the right form, checks and fair refusals, what each function is told, the two courses
pub mod Formed
pub mod Fair
pub mod Begun
-- DEL and DST, said once
pub mod Several
pub mod Chains
pub mod Spoken
pub mod Read
pub mod Course
-- walked: one link, then the chain on a sound table
pub mod Steps
pub mod Walked
-- ended: refused, whole or cut
pub mod Ended
