-- Of `tree_model`, what this crate names.
pub use Rattle.serving.proofs.TreeModel.NamedNode
