-- Of `flat_model`, what this crate and those above it name.
pub use Rattle.tree_model.proofs.FlatModel.Actions
pub use Rattle.tree_model.proofs.FlatModel.Completing
pub use Rattle.tree_model.proofs.FlatModel.Frames
pub use Rattle.tree_model.proofs.FlatModel.Insert
pub use Rattle.tree_model.proofs.FlatModel.Items
pub use Rattle.tree_model.proofs.FlatModel.Reserving
pub use Rattle.tree_model.proofs.FlatModel.Runs
pub use Rattle.tree_model.proofs.FlatModel.Steps
pub use Rattle.tree_model.proofs.FlatModel.Storing
