pub mod Having
pub mod Height
pub mod Judging
pub mod Keeping
