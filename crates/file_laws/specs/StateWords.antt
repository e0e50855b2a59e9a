-- Of `state_words`, what this crate and those above it name.
pub use Rattle.spelling_laws.specs.StateWords.Machine
pub use Rattle.spelling_laws.specs.StateWords.Numbers
pub use Rattle.spelling_laws.specs.StateWords.Parts
