-- Of `ddm_types`, what this crate and those above it name.
pub use Rattle.headline.specs.DdmTypes.CodeMap
pub use Rattle.headline.specs.DdmTypes.ItemTable
pub use Rattle.headline.specs.DdmTypes.Keys
pub use Rattle.headline.specs.DdmTypes.declared
