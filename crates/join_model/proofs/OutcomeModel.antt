-- Of `outcome_model`, what this crate and those above it name.
pub use Rattle.outcome_model.proofs.TableLaws
