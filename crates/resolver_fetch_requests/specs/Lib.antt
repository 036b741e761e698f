pub mod Requests
pub mod Ids
pub mod Loads
pub mod Deadlines
