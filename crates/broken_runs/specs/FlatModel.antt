-- Of `flat_model`, what this crate and those above it name.
pub use Rattle.tree_rules.specs.FlatModel.Flat
pub use Rattle.tree_rules.specs.FlatModel.Hart
pub use Rattle.tree_rules.specs.FlatModel.Legal
