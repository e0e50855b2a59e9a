-- Of `tree_rules`, what this crate and those above it name.
pub use Rattle.spelling_laws.specs.TreeRules.Bus
pub use Rattle.spelling_laws.specs.TreeRules.Order
pub use Rattle.spelling_laws.specs.TreeRules.Statements
