-- Lemmas on the memory of a phase's accesses.
pub mod Empty
pub mod Notes
