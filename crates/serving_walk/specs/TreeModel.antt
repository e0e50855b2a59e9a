-- Of `tree_model`, what this crate and those above it name.
pub use Rattle.headline.specs.TreeModel.Start
pub use Rattle.headline.specs.TreeModel.State
pub use Rattle.headline.specs.TreeModel.Turns
pub use Rattle.headline.specs.TreeModel.declared
