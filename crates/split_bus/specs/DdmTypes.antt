-- Of `ddm_types`, what this crate and those above it name.
pub use Rattle.item_states.specs.DdmTypes.declared
