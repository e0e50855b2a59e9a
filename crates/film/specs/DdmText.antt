-- Of `ddm_text`, what crates above this one name.
pub use Rattle.film_parts.specs.DdmText.Adds
