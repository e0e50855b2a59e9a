-- Of `tree_model`, what this crate and those above it name.
pub use Rattle.ddm_tree.specs.TreeModel.Start
pub use Rattle.ddm_tree.specs.TreeModel.State
pub use Rattle.ddm_tree.specs.TreeModel.Turns
pub use Rattle.ddm_tree.specs.TreeModel.declared
