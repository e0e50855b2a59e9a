-- Of `tree_model`, what this crate and those above it name.
pub use Rattle.item_states.specs.TreeModel.Computing
pub use Rattle.item_states.specs.TreeModel.Start
pub use Rattle.item_states.specs.TreeModel.State
pub use Rattle.item_states.specs.TreeModel.Turns
pub use Rattle.item_states.specs.TreeModel.declared
