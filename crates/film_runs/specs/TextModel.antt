-- Of `text_model`, what this crate and those above it name.
pub use Rattle.film.specs.TextModel.Report
pub use Rattle.film.specs.TextModel.Run
pub use Rattle.film.specs.TextModel.Trace
pub use Rattle.film.specs.TextModel.declared
