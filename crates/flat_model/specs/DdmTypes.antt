-- Of `ddm_types`, what this crate and those above it name.
pub use Rattle.ddm_types.specs.CodeMap
pub use Rattle.ddm_types.specs.ItemTable
pub use Rattle.ddm_types.specs.Keys
pub use Rattle.ddm_types.specs.declared
