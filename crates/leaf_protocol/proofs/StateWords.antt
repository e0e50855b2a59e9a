-- Of `state_words`, what this crate and those above it name.
pub use Rattle.replacement.proofs.StateWords.Mapped
pub use Rattle.replacement.proofs.StateWords.Nothing
pub use Rattle.replacement.proofs.StateWords.OneMore
