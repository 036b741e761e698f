pub mod Inputs
pub mod Effects
pub mod Steps
