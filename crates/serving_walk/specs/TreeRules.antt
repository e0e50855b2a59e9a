-- Of `tree_rules`, what this crate and those above it name.
pub use Rattle.headline.specs.TreeRules.Bus
