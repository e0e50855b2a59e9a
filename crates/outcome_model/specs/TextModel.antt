-- Of `text_model`, what this crate and those above it name.
pub use Rattle.text_model.specs.ReadBack
pub use Rattle.text_model.specs.Report
pub use Rattle.text_model.specs.Run
pub use Rattle.text_model.specs.Schedule
pub use Rattle.text_model.specs.Seeded
pub use Rattle.text_model.specs.declared
