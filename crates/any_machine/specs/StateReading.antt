-- Of `state_reading`, what this crate and those above it name.
pub use Rattle.inspector.specs.StateReading.declared
