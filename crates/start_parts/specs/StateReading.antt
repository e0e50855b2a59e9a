-- Of `state_reading`, what this crate and those above it name.
pub use Rattle.cluster.specs.StateReading.declared
