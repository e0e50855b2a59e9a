-- Of `ddm_types`, what this crate and those above it name.
pub use Rattle.cluster.specs.DdmTypes.ItemTable
pub use Rattle.cluster.specs.DdmTypes.Keys
pub use Rattle.cluster.specs.DdmTypes.declared
