-- The definitions that the contracts of page stores cite.
pub mod Pages
pub mod Sizes
pub mod ByteWords
pub mod Slots
pub mod Plays
