-- Of `state_reading`, what this crate and those above it name.
pub use Rattle.ddm_tree.specs.StateReading.declared
