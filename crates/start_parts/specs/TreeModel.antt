-- Of `tree_model`, what this crate and those above it name.
pub use Rattle.cluster.specs.TreeModel.Start
pub use Rattle.cluster.specs.TreeModel.State
pub use Rattle.cluster.specs.TreeModel.Turns
pub use Rattle.cluster.specs.TreeModel.declared
