pub mod Hashing
pub mod Naming
