-- Of `state_reading`, what this crate and those above it name.
pub use Rattle.state_reading.specs.Computing
pub use Rattle.state_reading.specs.Gives
pub use Rattle.state_reading.specs.Machine
pub use Rattle.state_reading.specs.Parts
pub use Rattle.state_reading.specs.Reading
pub use Rattle.state_reading.specs.declared
