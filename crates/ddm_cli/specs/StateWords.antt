-- Of `state_words`, what this crate names.
pub use Rattle.checkpoint.specs.StateWords.Machine
pub use Rattle.checkpoint.specs.StateWords.Numbers
pub use Rattle.checkpoint.specs.StateWords.Parts
