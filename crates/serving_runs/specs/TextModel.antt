-- Of `text_model`, what this crate names.
pub use Rattle.schedule_log.specs.TextModel.Schedule
