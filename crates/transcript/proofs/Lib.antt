-- Lemmas about the text of what became of a job.
mod Texts
