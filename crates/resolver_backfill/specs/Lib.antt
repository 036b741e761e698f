pub mod Plans
pub mod Alike
pub mod Given
pub mod Telling
pub mod WorkedPlan
