-- Of `value_laws`, what crates above this one name.
pub use Rattle.film_parts.specs.ValueLaws.Images
pub use Rattle.film_parts.specs.ValueLaws.Values
