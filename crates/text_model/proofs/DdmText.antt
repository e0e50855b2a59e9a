-- Of `ddm_text`, what this crate and those above it name.
pub use Rattle.ddm_text.proofs.Spellings
