-- Of `ddm_types`, what this crate and those above it name.
pub use Rattle.outcomes.specs.DdmTypes.ItemTable
pub use Rattle.outcomes.specs.DdmTypes.Keys
pub use Rattle.outcomes.specs.DdmTypes.declared
