-- Of `tree_model`, what this crate and those above it name.
pub use Rattle.tree_model.proofs.BusKeeps
pub use Rattle.tree_model.proofs.Changed
pub use Rattle.tree_model.proofs.Children
pub use Rattle.tree_model.proofs.FrameKept
pub use Rattle.tree_model.proofs.NamedNode
pub use Rattle.tree_model.proofs.Tests
pub use Rattle.tree_model.proofs.TurnChanges
