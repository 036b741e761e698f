pub use Rattle.resolver_types.specs.Names
pub use Rattle.resolver_types.specs.Demand
pub use Rattle.resolver_types.specs.Subscribers
pub mod Steps
pub mod Verdicts
pub mod Account
pub mod Lawful
pub mod Standing
