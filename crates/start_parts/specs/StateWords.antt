-- Of `state_words`, what this crate and those above it name.
pub use Rattle.cluster.specs.StateWords.Begins
pub use Rattle.cluster.specs.StateWords.Machine
