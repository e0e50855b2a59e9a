-- Of `tree_model`, what this crate and those above it name.
pub use Rattle.order_laws.proofs.TreeModel.BusKeeps
pub use Rattle.order_laws.proofs.TreeModel.Changed
pub use Rattle.order_laws.proofs.TreeModel.Children
pub use Rattle.order_laws.proofs.TreeModel.DirRooms
pub use Rattle.order_laws.proofs.TreeModel.FrameKept
pub use Rattle.order_laws.proofs.TreeModel.HartKeeps
pub use Rattle.order_laws.proofs.TreeModel.LeafRooms
pub use Rattle.order_laws.proofs.TreeModel.NamedNode
pub use Rattle.order_laws.proofs.TreeModel.RoomsKept
pub use Rattle.order_laws.proofs.TreeModel.Rows
pub use Rattle.order_laws.proofs.TreeModel.Sets
pub use Rattle.order_laws.proofs.TreeModel.Tests
pub use Rattle.order_laws.proofs.TreeModel.TurnChanges
