-- Of `headline`, what this crate and those above it name.
pub use Rattle.ddm_tree.proofs.HeadlineCrate.Runs
pub use Rattle.ddm_tree.proofs.HeadlineCrate.StartOrder
