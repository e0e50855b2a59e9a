-- Of `tree_model`, what this crate and those above it name.
pub use Rattle.text_model.proofs.TreeModel.Children
pub use Rattle.text_model.proofs.TreeModel.Tests
