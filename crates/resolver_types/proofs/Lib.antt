pub mod MappedInPart
pub mod Lexicographic
pub mod KeepsAny
pub mod Joins
pub mod Filtered
pub mod Undone
