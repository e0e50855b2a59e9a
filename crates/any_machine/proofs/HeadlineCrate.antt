-- Of `headline`, what this crate and those above it name.
pub use Rattle.inspector.proofs.HeadlineCrate.Runs
