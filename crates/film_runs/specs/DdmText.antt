-- Of `ddm_text`, what this crate and those above it name.
pub use Rattle.film.specs.DdmText.Adds
