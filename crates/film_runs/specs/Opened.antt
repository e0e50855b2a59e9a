-- Definitions of libraries below that proofs of this crate open.
unfoldable pub use Rattle.film_runs.specs.FilmModel.Film.{head_of, item_line, sizes_line, tree_line, writable_text}
unfoldable pub use Rattle.film_runs.specs.FilmModel.Part.{number_text}
