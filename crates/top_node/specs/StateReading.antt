-- Of `state_reading`, what this crate and those above it name.
pub use Rattle.directory.specs.StateReading.Gives
pub use Rattle.directory.specs.StateReading.Parts
pub use Rattle.directory.specs.StateReading.Reading
pub use Rattle.directory.specs.StateReading.declared
