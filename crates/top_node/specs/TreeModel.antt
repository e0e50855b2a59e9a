-- Of `tree_model`, what this crate and those above it name.
pub use Rattle.directory.specs.TreeModel.Start
pub use Rattle.directory.specs.TreeModel.State
