-- Of `tree_model`, what this crate and those above it name.
pub use Rattle.headline.proofs.TreeModel.FrameKept
pub use Rattle.headline.proofs.TreeModel.NamedNode
pub use Rattle.headline.proofs.TreeModel.TurnChanges
