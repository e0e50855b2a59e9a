-- Of `state_words`, what this crate and those above it name.
pub use Rattle.start_parts.specs.StateWords.Begins
pub use Rattle.start_parts.specs.StateWords.Machine
