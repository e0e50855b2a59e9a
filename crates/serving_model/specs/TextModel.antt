-- Of `text_model`, what this crate and those above it name.
pub use Rattle.text_model.specs.Faults
pub use Rattle.text_model.specs.Schedule
