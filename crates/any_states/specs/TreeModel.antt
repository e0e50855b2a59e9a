-- Of `tree_model`, what this crate and those above it name.
pub use Rattle.any_runs.specs.TreeModel.State
