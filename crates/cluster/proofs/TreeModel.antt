-- Of `tree_model`, what this crate and those above it name.
pub use Rattle.ddm_tree.proofs.TreeModel.FrameKept
pub use Rattle.ddm_tree.proofs.TreeModel.NamedNode
