-- Of `rv_decode`, what this crate and those above it name.
pub use Rattle.tree_rules.specs.RvDecode.Table
pub use Rattle.tree_rules.specs.RvDecode.declared
