-- Sets of words by core: what every signature keeps of them, and tables of bits that mean them.
pub mod Sentences
pub mod Operations
pub mod Rows
pub mod Tables
pub mod Fills
