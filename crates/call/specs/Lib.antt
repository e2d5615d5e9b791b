-- The definitions that the contracts of figures, calls, answers, refusals and faults cite.
pub mod Rows
pub mod Figures
pub mod Calls
pub mod Told
