-- Lemmas on lines: how they are written, how long they are, and that they are apart.
pub mod Writing
pub mod Digits
pub mod ReadBack
pub mod FromTold
pub mod Apart
pub mod Lengths
