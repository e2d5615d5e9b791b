-- Lemmas about reading a job's calls in turn, and about the verdict on a job.
mod Verdicts
mod Turns
