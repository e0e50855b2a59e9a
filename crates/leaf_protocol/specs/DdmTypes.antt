-- Of `ddm_types`, what this crate and those above it name.
pub use Rattle.attraction_mem.specs.DdmTypes.CodeMap
pub use Rattle.attraction_mem.specs.DdmTypes.ItemTable
pub use Rattle.attraction_mem.specs.DdmTypes.declared
