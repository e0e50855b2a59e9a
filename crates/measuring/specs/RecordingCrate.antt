-- Of `recording`, what crates above this one name.
pub use Rattle.recording.specs.Runs
