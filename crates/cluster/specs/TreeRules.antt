-- Of `tree_rules`, what this crate and those above it name.
pub use Rattle.ddm_tree.specs.TreeRules.Order
