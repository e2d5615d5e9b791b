-- The definitions that the contracts of words and marks cite.
pub mod Lawful
pub mod Marks
pub mod Words
pub mod Groups
