-- The definitions that the contracts of the memory cite.
pub mod Entries
pub mod Owners
pub mod Views
pub mod Walks
pub mod Modes
