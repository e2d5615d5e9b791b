-- The rules of the board, in the order of docs/RULES.md, and above them histories and the laws of whole runs.
pub mod Tables
pub mod State
pub mod Plans
pub mod Refusals
pub mod Effects
pub mod Steps
pub mod Questions
pub mod Runs
pub mod Histories
pub mod Laws
pub mod Signed
pub mod Cases
pub mod Examples
