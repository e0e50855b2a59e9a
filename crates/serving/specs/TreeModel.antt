-- Of `tree_model`, what this crate and those above it name.
pub use Rattle.serving_walk.specs.TreeModel.Start
pub use Rattle.serving_walk.specs.TreeModel.State
pub use Rattle.serving_walk.specs.TreeModel.Turns
pub use Rattle.serving_walk.specs.TreeModel.declared
