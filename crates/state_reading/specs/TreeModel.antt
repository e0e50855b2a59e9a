-- Of `tree_model`, what this crate and those above it name.
pub use Rattle.state_words.specs.TreeModel.Start
pub use Rattle.state_words.specs.TreeModel.State
pub use Rattle.state_words.specs.TreeModel.Turns
pub use Rattle.state_words.specs.TreeModel.declared
