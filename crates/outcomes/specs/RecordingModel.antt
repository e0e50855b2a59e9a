-- Of `recording_model`, what crates above this one name.
pub use Rattle.recording_model.specs.Doing
pub use Rattle.recording_model.specs.Recording
pub use Rattle.recording_model.specs.declared
