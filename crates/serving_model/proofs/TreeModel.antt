-- Of `tree_model`, what this crate and those above it name.
pub use Rattle.bus_laws.proofs.TreeModel.BusKeeps
pub use Rattle.bus_laws.proofs.TreeModel.Changed
pub use Rattle.bus_laws.proofs.TreeModel.Children
pub use Rattle.bus_laws.proofs.TreeModel.FrameKept
pub use Rattle.bus_laws.proofs.TreeModel.HartKeeps
pub use Rattle.bus_laws.proofs.TreeModel.NamedNode
pub use Rattle.bus_laws.proofs.TreeModel.TurnChanges
