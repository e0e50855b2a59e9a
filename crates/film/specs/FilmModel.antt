-- Of `film_model`, what this crate and those above it name.
pub use Rattle.film_parts.specs.FilmModel.Directory
pub use Rattle.film_parts.specs.FilmModel.Film
pub use Rattle.film_parts.specs.FilmModel.Leaf
pub use Rattle.film_parts.specs.FilmModel.Part
pub use Rattle.film_parts.specs.FilmModel.Still
