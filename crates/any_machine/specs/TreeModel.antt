-- Of `tree_model`, what this crate and those above it name.
pub use Rattle.inspector.specs.TreeModel.State
pub use Rattle.inspector.specs.TreeModel.Turns
