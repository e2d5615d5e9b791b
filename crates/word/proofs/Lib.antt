-- Lemmas on marks, and on the groups that spell words.
pub mod Marks
pub mod Groups
