-- Lemmas on page stores.
pub mod BankDrain
pub mod ByteWords
pub mod Accesses
pub mod Slots
