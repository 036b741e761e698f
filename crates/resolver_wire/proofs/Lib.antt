pub mod Groups
pub mod Layouts
pub mod Lengths
pub mod Pieces
pub mod Varints
pub mod RoundTrip
