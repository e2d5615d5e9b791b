-- Lemmas on bits, on tables of words and on the rows that a table means.
pub mod Bits
pub mod Rows
pub mod Sentences
pub mod Fills
pub mod Least
