-- Of `flat_model`, what this crate and those above it name.
pub use Rattle.tree_rules.proofs.FlatModel.Actions
pub use Rattle.tree_rules.proofs.FlatModel.Completing
pub use Rattle.tree_rules.proofs.FlatModel.Frames
pub use Rattle.tree_rules.proofs.FlatModel.Insert
pub use Rattle.tree_rules.proofs.FlatModel.Items
pub use Rattle.tree_rules.proofs.FlatModel.Reserving
pub use Rattle.tree_rules.proofs.FlatModel.Runs
pub use Rattle.tree_rules.proofs.FlatModel.Steps
pub use Rattle.tree_rules.proofs.FlatModel.Storing
