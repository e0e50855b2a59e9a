-- Of `tree_rules`, what this crate and those above it name.
pub use Rattle.order_laws.specs.TreeRules.Bus
pub use Rattle.order_laws.specs.TreeRules.Order
pub use Rattle.order_laws.specs.TreeRules.Statements
pub use Rattle.order_laws.specs.TreeRules.Witness
