-- Of `tree_model`, what this crate and those above it name.
pub use Rattle.tree_model.proofs.BusKeeps
pub use Rattle.tree_model.proofs.BusRooms
pub use Rattle.tree_model.proofs.Changed
pub use Rattle.tree_model.proofs.Children
pub use Rattle.tree_model.proofs.DirRooms
pub use Rattle.tree_model.proofs.FrameKept
pub use Rattle.tree_model.proofs.HartKeeps
pub use Rattle.tree_model.proofs.HartRooms
pub use Rattle.tree_model.proofs.LeafRooms
pub use Rattle.tree_model.proofs.NamedNode
pub use Rattle.tree_model.proofs.RoomsKept
pub use Rattle.tree_model.proofs.Rows
pub use Rattle.tree_model.proofs.Sets
pub use Rattle.tree_model.proofs.Tests
pub use Rattle.tree_model.proofs.TurnChanges
