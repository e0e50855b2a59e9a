-- Of `state_words`, what this crate and those above it name.
pub use Rattle.any_runs.specs.StateWords.Begins
pub use Rattle.any_runs.specs.StateWords.Machine
