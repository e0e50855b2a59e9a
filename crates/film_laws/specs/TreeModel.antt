-- Of `tree_model`, what this crate names.
pub use Rattle.value_laws.specs.TreeModel.Start
pub use Rattle.value_laws.specs.TreeModel.State
pub use Rattle.value_laws.specs.TreeModel.Turns
