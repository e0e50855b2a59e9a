-- Of `ddm_types`, what this crate and those above it name.
pub use Rattle.serving.specs.DdmTypes.CodeMap
pub use Rattle.serving.specs.DdmTypes.ItemTable
pub use Rattle.serving.specs.DdmTypes.Keys
pub use Rattle.serving.specs.DdmTypes.declared
