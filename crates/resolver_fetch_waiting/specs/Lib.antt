pub mod Queues
pub mod Pending
