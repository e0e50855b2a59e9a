-- Of `tree_rules`, what this crate and those above it name.
pub use Rattle.bus_laws.specs.TreeRules.Bus
pub use Rattle.bus_laws.specs.TreeRules.Computing
pub use Rattle.bus_laws.specs.TreeRules.Examples
pub use Rattle.bus_laws.specs.TreeRules.Order
pub use Rattle.bus_laws.specs.TreeRules.Statements
