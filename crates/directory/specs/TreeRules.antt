-- Of `tree_rules`, what this crate and those above it name.
pub use Rattle.bus_judging.specs.TreeRules.Bus
pub use Rattle.bus_judging.specs.TreeRules.Order
pub use Rattle.bus_judging.specs.TreeRules.Statements
