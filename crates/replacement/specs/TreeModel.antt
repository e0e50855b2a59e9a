-- Of `tree_model`, what this crate and those above it name.
pub use Rattle.state_reading.specs.TreeModel.State
