-- Of `value_laws`, what this crate and those above it name.
pub use Rattle.value_laws.specs.Images
pub use Rattle.value_laws.specs.Values
