-- Of `film_model`, what crates above this one name.
pub use Rattle.film_model.specs.Directory
pub use Rattle.film_model.specs.Film
pub use Rattle.film_model.specs.Leaf
pub use Rattle.film_model.specs.Part
pub use Rattle.film_model.specs.Still
