-- Of `tree_model`, what this crate and those above it name.
pub use Rattle.tree_model.specs.Computing
pub use Rattle.tree_model.specs.Laws
pub use Rattle.tree_model.specs.Start
pub use Rattle.tree_model.specs.State
pub use Rattle.tree_model.specs.Turns
pub use Rattle.tree_model.specs.declared
