-- Of `start_parts`, what this crate and those above it name.
pub use Rattle.start_parts.specs.Counts
pub use Rattle.start_parts.specs.Held
pub use Rattle.start_parts.specs.Parts
