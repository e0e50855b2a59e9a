-- Of the crate of stills, what this crate and those above it name.
pub use Rattle.film.specs.Filmed
