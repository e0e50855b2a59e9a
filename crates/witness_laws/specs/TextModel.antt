-- Of `text_model`, what this crate and those above it name.
pub use Rattle.witness_check.specs.TextModel.Report
pub use Rattle.witness_check.specs.TextModel.Run
pub use Rattle.witness_check.specs.TextModel.Words
