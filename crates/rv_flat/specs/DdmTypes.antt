-- Of `ddm_types`, what this crate and those above it name.
pub use Rattle.rv_hart.specs.DdmTypes.CodeMap
pub use Rattle.rv_hart.specs.DdmTypes.ItemTable
pub use Rattle.rv_hart.specs.DdmTypes.Keys
pub use Rattle.rv_hart.specs.DdmTypes.declared
