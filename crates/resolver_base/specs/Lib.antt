pub mod Faults
pub mod Sending
pub mod Drawn
pub mod Answering
