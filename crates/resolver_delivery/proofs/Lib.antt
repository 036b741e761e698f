pub mod Cached
pub mod Refusals
