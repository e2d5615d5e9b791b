-- The definitions that the contracts of the transcript cite.
pub mod Transcripts
