-- Of `tree_model`, what this crate and those above it name.
pub use Rattle.tree_model.proofs.Children
pub use Rattle.tree_model.proofs.Tests
