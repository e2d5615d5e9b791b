-- The locks as the rules see them, and what acquire and release answer and leave.
pub mod Rows
pub mod Ties
pub mod Refused
pub mod Acquire
pub mod Release
pub mod Views
