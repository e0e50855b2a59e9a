-- Of `text_model`, what this crate and those above it name.
pub use Rattle.outcome_model.specs.TextModel.ReadBack
pub use Rattle.outcome_model.specs.TextModel.Report
pub use Rattle.outcome_model.specs.TextModel.Run
pub use Rattle.outcome_model.specs.TextModel.Schedule
pub use Rattle.outcome_model.specs.TextModel.Seeded
pub use Rattle.outcome_model.specs.TextModel.declared
