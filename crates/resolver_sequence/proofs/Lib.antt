pub mod Entries
pub mod Slots
