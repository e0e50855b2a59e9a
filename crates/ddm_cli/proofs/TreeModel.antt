-- Of `tree_model`, what this crate and those above it name.
pub use Rattle.outcomes.proofs.TreeModel.Children
pub use Rattle.outcomes.proofs.TreeModel.FrameKept
pub use Rattle.outcomes.proofs.TreeModel.NamedNode
pub use Rattle.outcomes.proofs.TreeModel.Tests
