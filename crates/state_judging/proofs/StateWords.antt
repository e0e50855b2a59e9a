-- Of `state_words`, what this crate and those above it name.
pub use Rattle.state_reading.proofs.StateWords.Nothing
pub use Rattle.state_reading.proofs.StateWords.OneMore
