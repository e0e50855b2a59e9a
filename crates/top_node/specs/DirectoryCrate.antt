-- Of `directory`, what this crate and those above it name.
pub use Rattle.directory.specs.Stamps
