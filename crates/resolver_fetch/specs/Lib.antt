pub mod Seeking
pub mod Stepping
pub mod Progress
pub mod Fetching
pub mod FetcherWorked
pub mod Cursor
pub mod LeftPeers
