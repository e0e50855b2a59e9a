-- Of `state_keys`, what this crate and those above it name.
pub use Rattle.explorer.specs.StateKeys.Same
