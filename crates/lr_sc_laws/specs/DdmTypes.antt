-- Of `ddm_types`, what this crate and those above it name.
pub use Rattle.tree_model.specs.DdmTypes.CodeMap
pub use Rattle.tree_model.specs.DdmTypes.ItemTable
pub use Rattle.tree_model.specs.DdmTypes.declared
