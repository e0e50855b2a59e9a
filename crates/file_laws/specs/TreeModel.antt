-- Of `tree_model`, what this crate and those above it name.
pub use Rattle.value_laws.specs.TreeModel.Start
pub use Rattle.value_laws.specs.TreeModel.State
pub use Rattle.value_laws.specs.TreeModel.Turns
pub use Rattle.value_laws.specs.TreeModel.declared
