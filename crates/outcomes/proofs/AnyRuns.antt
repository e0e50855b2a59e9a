-- Of `any_runs`, what this crate and those above it name.
pub use Rattle.measuring.proofs.AnyRuns.Forgotten
pub use Rattle.measuring.proofs.AnyRuns.RunMore
