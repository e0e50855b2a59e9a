-- Of `item_states`, what this crate and those above it name.
pub use Rattle.replacement.specs.ItemStates.Parts
