pub mod Counts
pub mod Agreeing
