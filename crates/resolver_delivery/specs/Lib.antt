pub mod Entries
pub mod Again
