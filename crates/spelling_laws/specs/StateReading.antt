-- Of `state_reading`, what this crate and those above it name.
pub use Rattle.state_judging.specs.StateReading.Computing
pub use Rattle.state_judging.specs.StateReading.Machine
pub use Rattle.state_judging.specs.StateReading.Parts
pub use Rattle.state_judging.specs.StateReading.Reading
pub use Rattle.state_judging.specs.StateReading.declared
