-- Of `start_parts`, what crates above this one name.
pub use Rattle.recording.specs.StartParts.Parts
