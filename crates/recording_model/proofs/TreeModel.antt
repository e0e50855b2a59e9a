-- Of `tree_model`, what this crate and those above it name.
pub use Rattle.outcome_model.proofs.TreeModel.Changed
pub use Rattle.outcome_model.proofs.TreeModel.Children
pub use Rattle.outcome_model.proofs.TreeModel.NamedNode
pub use Rattle.outcome_model.proofs.TreeModel.TurnChanges
