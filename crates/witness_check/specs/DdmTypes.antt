-- Of `ddm_types`, what this crate and those above it name.
pub use Rattle.rv_flat.specs.DdmTypes.CodeMap
pub use Rattle.rv_flat.specs.DdmTypes.ItemTable
pub use Rattle.rv_flat.specs.DdmTypes.Keys
pub use Rattle.rv_flat.specs.DdmTypes.declared
