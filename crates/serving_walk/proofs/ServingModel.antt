-- Of `serving_model`, what this crate and those above it name.
pub use Rattle.serving_model.proofs.Completing
pub use Rattle.serving_model.proofs.Found
pub use Rattle.serving_model.proofs.Instruction
pub use Rattle.serving_model.proofs.LegalHarts
pub use Rattle.serving_model.proofs.Listed
pub use Rattle.serving_model.proofs.ServedLegal
pub use Rattle.serving_model.proofs.Settled
pub use Rattle.serving_model.proofs.Shown
pub use Rattle.serving_model.proofs.Spine
pub use Rattle.serving_model.proofs.StartRoom
pub use Rattle.serving_model.proofs.StartShows
