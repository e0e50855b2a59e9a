-- Of `tree_model`, what this crate and those above it name.
pub use Rattle.tree_rules.proofs.TreeModel.HartRooms
pub use Rattle.tree_rules.proofs.TreeModel.LeafRooms
