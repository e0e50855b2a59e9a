-- Of `tree_model`, what this crate and those above it name.
pub use Rattle.any_runs.specs.TreeModel.Turns
pub use Rattle.tree_config.specs.TreeModel.Start
pub use Rattle.tree_config.specs.TreeModel.State
