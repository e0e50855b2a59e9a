-- Of `tree_rules`, what this crate and those above it name.
pub use Rattle.spelling_laws.specs.TreeRules.Computing
pub use Rattle.spelling_laws.specs.TreeRules.Examples
