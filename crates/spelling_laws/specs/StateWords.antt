-- Of `state_words`, what this crate and those above it name.
pub use Rattle.state_judging.specs.StateWords.Machine
pub use Rattle.state_judging.specs.StateWords.Numbers
pub use Rattle.state_judging.specs.StateWords.Parts
pub use Rattle.state_judging.specs.StateWords.declared
