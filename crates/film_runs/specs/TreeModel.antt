-- Of `tree_model`, what this crate and those above it name.
pub use Rattle.film.specs.TreeModel.Start
pub use Rattle.film.specs.TreeModel.State
pub use Rattle.film.specs.TreeModel.Turns
