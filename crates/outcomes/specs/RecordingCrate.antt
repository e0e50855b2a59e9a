-- Of `recording`, what crates above this one name.
pub use Rattle.measuring.specs.RecordingCrate.Runs
