-- Of `ddm_types`, what this crate and those above it name.
pub use Rattle.tree_model.specs.DdmTypes.declared
