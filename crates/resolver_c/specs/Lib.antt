pub mod Slots
pub mod Halves
pub mod Calls
