-- Of `any_runs`, what crates above this one name.
pub use Rattle.recording.specs.AnyRuns.Run
