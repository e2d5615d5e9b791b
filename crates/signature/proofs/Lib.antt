-- Lemmas on signatures.
pub mod Same
pub mod Changes
