-- Of `state_reading`, what this crate and those above it name.
pub use Rattle.replacement.specs.StateReading.Gives
pub use Rattle.replacement.specs.StateReading.Parts
pub use Rattle.replacement.specs.StateReading.Reading
pub use Rattle.replacement.specs.StateReading.declared
