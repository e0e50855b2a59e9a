-- Of `tree_model`, what this crate and those above it name.
pub use Rattle.serving.specs.TreeModel.Start
pub use Rattle.serving.specs.TreeModel.State
pub use Rattle.serving.specs.TreeModel.Turns
