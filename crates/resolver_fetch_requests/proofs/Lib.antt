pub mod Soonest
pub mod Timed
pub mod NextIds
pub mod NewIds
pub mod Names
pub mod Loaded
