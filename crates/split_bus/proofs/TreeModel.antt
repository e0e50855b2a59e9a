-- Of `tree_model`, what this crate and those above it name.
pub use Rattle.item_states.proofs.TreeModel.Children
pub use Rattle.item_states.proofs.TreeModel.Tests
