pub mod Joined
pub mod Dues
pub mod Bounds
