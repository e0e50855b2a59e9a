-- Of `tree_model`, what this crate and those above it name.
pub use Rattle.headline.proofs.TreeModel.BusKeeps
pub use Rattle.headline.proofs.TreeModel.Changed
pub use Rattle.headline.proofs.TreeModel.Children
pub use Rattle.headline.proofs.TreeModel.DirRooms
pub use Rattle.headline.proofs.TreeModel.FrameKept
pub use Rattle.headline.proofs.TreeModel.NamedNode
pub use Rattle.headline.proofs.TreeModel.RoomsKept
pub use Rattle.headline.proofs.TreeModel.Rows
pub use Rattle.headline.proofs.TreeModel.Sets
pub use Rattle.headline.proofs.TreeModel.Tests
pub use Rattle.headline.proofs.TreeModel.TurnChanges
