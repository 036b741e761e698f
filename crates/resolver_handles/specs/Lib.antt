pub use Rattle.resolver_types.specs.Names
pub use Rattle.resolver_messages.specs.Waiting
pub use Rattle.resolver_mailbox.specs.Shares
pub mod Handles
