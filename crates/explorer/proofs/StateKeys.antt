-- Of `state_keys`, what this crate and those above it name.
pub use Rattle.state_keys.proofs.Runs
pub use Rattle.state_keys.proofs.Told
