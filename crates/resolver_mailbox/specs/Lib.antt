pub use Rattle.resolver_types.specs.Names
pub use Rattle.resolver_messages.specs.Waiting
pub mod Shares
pub mod Given
pub mod MockKeys
