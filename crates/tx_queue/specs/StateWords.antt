-- Of `state_words`, what this crate and those above it name.
pub use Rattle.state_reading.specs.StateWords.Begins
pub use Rattle.state_reading.specs.StateWords.Parts
