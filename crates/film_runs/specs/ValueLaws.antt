-- Of `value_laws`, what this crate and those above it name.
pub use Rattle.film.specs.ValueLaws.Images
pub use Rattle.film.specs.ValueLaws.Values
