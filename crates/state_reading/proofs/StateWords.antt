-- Of `state_words`, what this crate and those above it name.
pub use Rattle.state_words.proofs.Mapped
pub use Rattle.state_words.proofs.Nothing
pub use Rattle.state_words.proofs.OneMore
