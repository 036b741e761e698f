pub mod Marks
pub mod Right
pub mod Items
pub mod Queue
pub mod Pruned
pub mod Fetched
pub mod PlacesOfKeys
