-- Of `state_reading`, what this crate and those above it name.
pub use Rattle.any_runs.specs.StateReading.declared
