-- Of `state_words`, what this crate and those above it name.
pub use Rattle.replacement.specs.StateWords.Begins
pub use Rattle.replacement.specs.StateWords.Numbers
pub use Rattle.replacement.specs.StateWords.Parts
