-- Of `item_states`, what this crate and those above it name.
pub use Rattle.split_bus.specs.ItemStates.Parts
