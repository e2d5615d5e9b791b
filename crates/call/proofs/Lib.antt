-- Lemmas on the check of the figures.
pub mod Passing
