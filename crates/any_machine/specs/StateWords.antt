-- Of `state_words`, what this crate and those above it name.
pub use Rattle.inspector.specs.StateWords.Begins
pub use Rattle.inspector.specs.StateWords.Machine
