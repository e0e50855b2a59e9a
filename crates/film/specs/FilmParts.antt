-- Of `film_parts`, and of others through it, what this crate and those above it name.
pub use Rattle.film_parts.specs.Records
pub use Rattle.film_parts.specs.StateWords.Parts
pub use Rattle.film_parts.specs.ValueLaws.Values
