-- Of `any_runs`, what this crate and those above it name.
pub use Rattle.outcomes.proofs.AnyRuns.Forgotten
pub use Rattle.outcomes.proofs.AnyRuns.RunMore
