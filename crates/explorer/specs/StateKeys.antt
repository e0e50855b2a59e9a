-- Of `state_keys`, what this crate and those above it name.
pub use Rattle.state_keys.specs.Key
pub use Rattle.state_keys.specs.Same
