-- Of `text_model`, what this crate and those above it name.
pub use Rattle.report.specs.TextModel.Run
pub use Rattle.report.specs.TextModel.declared
