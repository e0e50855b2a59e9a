-- Of `text_model`, what this crate and those above it name.
pub use Rattle.witness_check.specs.TextModel.Faults
pub use Rattle.witness_check.specs.TextModel.ReadBack
pub use Rattle.witness_check.specs.TextModel.Report
pub use Rattle.witness_check.specs.TextModel.Run
pub use Rattle.witness_check.specs.TextModel.Schedule
pub use Rattle.witness_check.specs.TextModel.Seeded
pub use Rattle.witness_check.specs.TextModel.Trace
pub use Rattle.witness_check.specs.TextModel.declared
