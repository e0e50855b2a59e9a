-- Of `tree_model`, what this crate and those above it name.
pub use Rattle.serving_walk.proofs.TreeModel.FrameKept
pub use Rattle.serving_walk.proofs.TreeModel.NamedNode
pub use Rattle.serving_walk.proofs.TreeModel.TurnChanges
