-- Of `state_words`, what this crate and those above it name.
pub use Rattle.ddm_tree.specs.StateWords.Begins
pub use Rattle.ddm_tree.specs.StateWords.Machine
