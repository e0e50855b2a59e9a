-- Of `state_reading`, what this crate and those above it name.
pub use Rattle.start_parts.specs.StateReading.declared
