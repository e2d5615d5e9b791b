-- Lemmas about checks in a row, and about what calls leave.
mod Checks
mod Clears
mod Opens
mod Performing
mod Refusing
mod Remembering
pub mod Playing
pub mod Whole
mod Turns
mod Counts
