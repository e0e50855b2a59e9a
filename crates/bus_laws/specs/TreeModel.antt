-- Of `tree_model`, what this crate and those above it name.
pub use Rattle.tree_rules.specs.TreeModel.Laws
pub use Rattle.tree_rules.specs.TreeModel.Start
pub use Rattle.tree_rules.specs.TreeModel.State
pub use Rattle.tree_rules.specs.TreeModel.Turns
pub use Rattle.tree_rules.specs.TreeModel.declared
