-- Of `tree_model`, what this crate and those above it name.
pub use Rattle.tree_rules.proofs.TreeModel.BusKeeps
pub use Rattle.tree_rules.proofs.TreeModel.BusRooms
pub use Rattle.tree_rules.proofs.TreeModel.Changed
pub use Rattle.tree_rules.proofs.TreeModel.Children
pub use Rattle.tree_rules.proofs.TreeModel.DirRooms
pub use Rattle.tree_rules.proofs.TreeModel.FrameKept
pub use Rattle.tree_rules.proofs.TreeModel.HartKeeps
pub use Rattle.tree_rules.proofs.TreeModel.HartRooms
pub use Rattle.tree_rules.proofs.TreeModel.LeafRooms
pub use Rattle.tree_rules.proofs.TreeModel.NamedNode
pub use Rattle.tree_rules.proofs.TreeModel.RoomsKept
pub use Rattle.tree_rules.proofs.TreeModel.Rows
pub use Rattle.tree_rules.proofs.TreeModel.Sets
pub use Rattle.tree_rules.proofs.TreeModel.Tests
pub use Rattle.tree_rules.proofs.TreeModel.TurnChanges
