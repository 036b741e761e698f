pub use Rattle.resolver_types.specs.Names
pub use Rattle.resolver_delivery.specs.Entries
pub mod Verdict
pub mod Deadlines
pub mod Endings
pub mod Polled
