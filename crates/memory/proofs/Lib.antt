-- The lemmas of the memory.
pub mod Owned
pub mod Views
pub mod Pages
pub mod Loads
pub mod Stores
pub mod Walks
pub mod Settles
pub mod Modes
pub mod Fades
pub mod Opens
