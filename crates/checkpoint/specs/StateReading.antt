-- Of `state_reading`, what this crate and those above it name.
pub use Rattle.spelling_laws.specs.StateReading.Computing
pub use Rattle.spelling_laws.specs.StateReading.Machine
pub use Rattle.spelling_laws.specs.StateReading.Parts
pub use Rattle.spelling_laws.specs.StateReading.Reading
pub use Rattle.spelling_laws.specs.StateReading.declared
