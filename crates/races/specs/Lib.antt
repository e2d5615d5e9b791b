-- The definitions that the contracts of the memory of accesses cite.
pub mod Pairs
pub mod Stamps
pub mod Remembered
