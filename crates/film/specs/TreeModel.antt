-- Of `tree_model`, what this crate and those above it name.
pub use Rattle.film_parts.specs.TreeModel.Start
pub use Rattle.any_runs.specs.TreeModel.State
pub use Rattle.any_runs.specs.TreeModel.Turns
pub use Rattle.tree_model.specs.declared
