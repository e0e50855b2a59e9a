-- Of `ddm_types`, what this crate and those above it name.
pub use Rattle.ddm_tree.specs.DdmTypes.ItemTable
pub use Rattle.ddm_tree.specs.DdmTypes.Keys
pub use Rattle.ddm_tree.specs.DdmTypes.declared
