pub mod Keys
pub mod Turning
pub mod Told
