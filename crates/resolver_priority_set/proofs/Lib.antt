pub mod Ordered
pub mod Priorities
pub mod Forgotten
pub mod From
