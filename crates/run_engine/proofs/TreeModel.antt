-- Of `tree_model`, what this crate and those above it name.
pub use Rattle.any_runs.proofs.TreeModel.Children
pub use Rattle.any_runs.proofs.TreeModel.Tests
