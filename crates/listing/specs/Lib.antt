-- The definitions that the contracts of a job's text cite.
pub mod Lines
pub mod Laws
