-- Of `headline`, what this crate and those above it name.
pub use Rattle.outcome_model.proofs.HeadlineCrate.Runs
