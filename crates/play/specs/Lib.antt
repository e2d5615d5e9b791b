-- The definitions that the contracts of the player cite.
pub mod Playing
