-- Of `tree_model`, what this crate and those above it name.
pub use Rattle.leaf_protocol.specs.TreeModel.State
