-- Of `headline`, what this crate names.
pub use Rattle.any_runs.proofs.HeadlineCrate.Runs
