-- The definitions that the contracts of lines cite.
pub mod Texts
pub mod Writing
pub mod Lines
pub mod Laws
