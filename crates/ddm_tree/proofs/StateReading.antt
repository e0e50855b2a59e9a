-- Of `state_reading`, what this crate and those above it name.
pub use Rattle.state_judging.proofs.StateReading.Steps
