-- Of `tree_model`, what this crate and those above it name.
pub use Rattle.cluster.proofs.TreeModel.FrameKept
pub use Rattle.cluster.proofs.TreeModel.NamedNode
