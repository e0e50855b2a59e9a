-- Of `serving_model`, what this crate and those above it name.
pub use Rattle.serving_walk.proofs.ServingModel.Completing
pub use Rattle.serving_walk.proofs.ServingModel.Found
pub use Rattle.serving_walk.proofs.ServingModel.Instruction
pub use Rattle.serving_walk.proofs.ServingModel.LegalHarts
pub use Rattle.serving_walk.proofs.ServingModel.Listed
pub use Rattle.serving_walk.proofs.ServingModel.ServedLegal
pub use Rattle.serving_walk.proofs.ServingModel.Settled
pub use Rattle.serving_walk.proofs.ServingModel.Shown
pub use Rattle.serving_walk.proofs.ServingModel.Spine
pub use Rattle.serving_walk.proofs.ServingModel.StartRoom
pub use Rattle.serving_walk.proofs.ServingModel.StartShows
