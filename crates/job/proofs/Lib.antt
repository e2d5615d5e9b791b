-- Lemmas on the bytes of jobs.
pub mod Records
pub mod BigEndian
pub mod Spelling
pub mod RoundTrip
pub mod Writing
