-- Lemmas about queues, about the tie between locks and cores, and about the questions of the rules.
mod Counts
mod Ties
pub mod Tables
mod Questions
mod Kept
mod Changes
