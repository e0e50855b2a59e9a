-- Of `film_model`, what this crate and those above it name.
pub use Rattle.film.specs.FilmModel.Directory
pub use Rattle.film.specs.FilmModel.Film
pub use Rattle.film.specs.FilmModel.Leaf
pub use Rattle.film.specs.FilmModel.Part
pub use Rattle.film.specs.FilmModel.Still
