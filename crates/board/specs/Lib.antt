-- The definitions that the contracts of the board cite.
pub mod Memories
pub mod Views
pub mod Checking
pub mod Turns
pub mod Obeying
pub mod Runs
