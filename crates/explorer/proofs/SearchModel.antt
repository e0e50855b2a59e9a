-- Of `search_model`, what this crate and those above it name.
pub use Rattle.search_model.proofs.Fit
pub use Rattle.search_model.proofs.Named
pub use Rattle.search_model.proofs.QuietFirst
pub use Rattle.search_model.proofs.TriedTurns
