-- Of `value_laws`, what this crate and those above it name.
pub use Rattle.spelling_laws.specs.ValueLaws.Images
