-- Of `recording`, what this crate names.
pub use Rattle.outcomes.specs.RecordingCrate.Runs
