-- Of `ddm_types`, what this crate and those above it name.
pub use Rattle.tree_rules.specs.DdmTypes.CodeMap
pub use Rattle.tree_rules.specs.DdmTypes.Keys
pub use Rattle.tree_rules.specs.DdmTypes.declared
