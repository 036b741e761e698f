pub mod Ending
pub mod Matching
pub mod Listed
pub mod EngineLaws
pub mod Taking
pub mod Phased
pub mod Asking
