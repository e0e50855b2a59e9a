-- Of `any_runs`, what crates above this one name.
pub use Rattle.recording.proofs.AnyRuns.Forgotten
pub use Rattle.recording.proofs.AnyRuns.RunMore
