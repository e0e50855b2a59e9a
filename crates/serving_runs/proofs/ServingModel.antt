-- Of `serving_model`, what this crate names.
pub use Rattle.serving.proofs.ServingModel.LegalHarts
pub use Rattle.serving.proofs.ServingModel.ServedLegal
pub use Rattle.serving.proofs.ServingModel.StartRoom
pub use Rattle.serving.proofs.ServingModel.StartShows
