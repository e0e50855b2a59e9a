-- Of `flat_model`, what this crate and those above it name.
pub use Rattle.tree_model.specs.FlatModel.Flat
pub use Rattle.tree_model.specs.FlatModel.Hart
