-- each phase by what the record holds: shared by the code's proofs and the theorems of `disk_demands`
pub mod Phases
