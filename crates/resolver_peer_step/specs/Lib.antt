pub mod Aiming
pub mod ScanAnswers
pub mod EngineSteps
pub mod Going
pub mod Said
pub mod Tied
pub mod Ruled
pub mod Counted
