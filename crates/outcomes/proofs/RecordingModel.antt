-- Of `recording_model`, what this crate and those above it name.
pub use Rattle.recording_model.proofs.Doing
