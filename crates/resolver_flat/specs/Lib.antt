pub mod Naming
pub mod Leavings
pub mod Reading
pub mod Spelling
pub mod Refusals
