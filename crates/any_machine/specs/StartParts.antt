-- Of `start_parts`, what this crate and those above it name.
pub use Rattle.inspector.specs.StartParts.Counts
pub use Rattle.inspector.specs.StartParts.Held
pub use Rattle.inspector.specs.StartParts.Parts
