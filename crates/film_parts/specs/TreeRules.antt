-- Of `tree_rules`, what crates above this one name.
pub use Rattle.value_laws.specs.TreeRules.Bus
