-- Of `tree_model`, what crates above this one name.
pub use Rattle.text_model.proofs.TreeModel.FrameKept
pub use Rattle.text_model.proofs.TreeModel.NamedNode
