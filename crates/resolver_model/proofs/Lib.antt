pub mod Runs
pub mod Mapped
pub mod Deliveries
pub mod Rows
pub mod Marks
pub mod Tallies
pub mod Pairs
pub mod Bridge
