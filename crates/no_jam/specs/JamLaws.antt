-- Of `jam_laws`, what this crate and those above it name.
pub use Rattle.jam_laws.specs.GoesOn
