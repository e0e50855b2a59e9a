-- Of `flat_model`, what this crate and those above it name.
pub use Rattle.tree_rules.proofs.FlatModel.Insert
pub use Rattle.tree_rules.proofs.FlatModel.Runs
