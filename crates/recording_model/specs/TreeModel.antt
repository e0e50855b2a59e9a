-- Of `tree_model`, what this crate and those above it name.
pub use Rattle.outcome_model.specs.TreeModel.Laws
pub use Rattle.outcome_model.specs.TreeModel.Start
pub use Rattle.outcome_model.specs.TreeModel.State
pub use Rattle.outcome_model.specs.TreeModel.Turns
