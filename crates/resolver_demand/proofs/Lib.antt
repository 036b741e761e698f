pub mod ListedRows
pub mod Emptied
pub mod Served
pub mod Placed
mod Held
mod Copied
