-- Of `state_words`, what this crate and those above it name.
pub use Rattle.directory.specs.StateWords.Begins
pub use Rattle.directory.specs.StateWords.Parts
