-- The definitions that the contracts of the job reader and the encoder cite.
pub mod Bytes
pub mod Encoding
pub mod Reading
pub mod Laws
pub mod Jobs
