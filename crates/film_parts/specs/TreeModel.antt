-- Of `tree_model`, what this crate and those above it name.
pub use Rattle.text_model.specs.TreeModel.Start
pub use Rattle.text_model.specs.TreeModel.State
pub use Rattle.text_model.specs.TreeModel.declared
