-- Of `headline`, what this crate and those above it name.
pub use Rattle.cluster.proofs.HeadlineCrate.Runs
pub use Rattle.cluster.proofs.HeadlineCrate.StartOrder
