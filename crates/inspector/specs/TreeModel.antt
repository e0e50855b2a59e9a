-- Of `tree_model`, what this crate and those above it name.
pub use Rattle.start_parts.specs.TreeModel.State
pub use Rattle.start_parts.specs.TreeModel.Turns
pub use Rattle.start_parts.specs.TreeModel.declared
