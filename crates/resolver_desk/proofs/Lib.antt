pub mod Drained
pub mod Calls
pub mod Desks
