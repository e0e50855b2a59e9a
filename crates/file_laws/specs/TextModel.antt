-- Of `text_model`, what this crate and those above it name.
pub use Rattle.schedule_log.specs.TextModel.ReadBack
pub use Rattle.schedule_log.specs.TextModel.Schedule
pub use Rattle.schedule_log.specs.TextModel.Seeded
