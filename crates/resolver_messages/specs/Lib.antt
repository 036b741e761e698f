pub mod Draining
pub mod Waiting
pub mod Fetched
pub mod Places
