-- Of `tree_model`, what this crate and those above it name.
pub use Rattle.outcomes.specs.TreeModel.Start
pub use Rattle.outcomes.specs.TreeModel.State
pub use Rattle.outcomes.specs.TreeModel.Turns
