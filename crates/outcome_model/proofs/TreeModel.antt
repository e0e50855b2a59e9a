-- Of `tree_model`, what this crate and those above it name.
pub use Rattle.text_model.proofs.TreeModel.BusKeeps
pub use Rattle.text_model.proofs.TreeModel.Changed
pub use Rattle.text_model.proofs.TreeModel.Children
pub use Rattle.text_model.proofs.TreeModel.FrameKept
pub use Rattle.text_model.proofs.TreeModel.NamedNode
pub use Rattle.text_model.proofs.TreeModel.Tests
pub use Rattle.text_model.proofs.TreeModel.TurnChanges
