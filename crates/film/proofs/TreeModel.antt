-- Of `tree_model`, what crates above this one name.
pub use Rattle.film_parts.proofs.TreeModel.FrameKept
pub use Rattle.film_parts.proofs.TreeModel.NamedNode
