-- Of `state_words`, what this crate and those above it name.
pub use Rattle.state_judging.specs.StateWords.Begins
pub use Rattle.state_judging.specs.StateWords.Machine
pub use Rattle.state_judging.specs.StateWords.Parts
