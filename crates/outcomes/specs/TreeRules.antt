-- Of `tree_rules`, what this crate and those above it name.
pub use Rattle.outcome_model.specs.TreeRules.Witness
