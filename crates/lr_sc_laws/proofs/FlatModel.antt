-- Of `flat_model`, what this crate names.
pub use Rattle.tree_model.proofs.FlatModel.Actions
pub use Rattle.tree_model.proofs.FlatModel.Insert
pub use Rattle.tree_model.proofs.FlatModel.Items
pub use Rattle.tree_model.proofs.FlatModel.Reserving
pub use Rattle.tree_model.proofs.FlatModel.Runs
pub use Rattle.tree_model.proofs.FlatModel.Steps
