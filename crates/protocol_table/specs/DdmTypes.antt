-- Of `ddm_types`, what this crate names.
pub use Rattle.tree_model.specs.DdmTypes.Keys
pub use Rattle.tree_model.specs.DdmTypes.declared
