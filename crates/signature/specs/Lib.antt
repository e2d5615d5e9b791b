-- The definitions that the contracts of signatures cite.
pub mod Rows
pub mod Exacts
pub mod Blooms
pub mod Changes
