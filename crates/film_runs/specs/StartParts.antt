-- Of `start_parts`, what this crate and those above it name.
pub use Rattle.film.specs.StartParts.Counts
