pub mod Inputs
pub mod Effects
pub mod Settings
pub mod Steps
pub mod Either
