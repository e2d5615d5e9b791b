-- Lemmas on the lines of a job's text.
pub mod Strips
pub mod Texts
pub mod Apart
