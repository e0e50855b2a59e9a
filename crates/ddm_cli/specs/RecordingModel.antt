-- Of `recording_model`, what this crate names.
pub use Rattle.outcomes.specs.RecordingModel.Recording
