-- Of `text_model`, what crates above this one name.
pub use Rattle.film_parts.specs.TextModel.Report
pub use Rattle.film_parts.specs.TextModel.Run
pub use Rattle.film_parts.specs.TextModel.Trace
pub use Rattle.film_parts.specs.TextModel.declared
