-- Of `tree_rules`, what this crate and those above it name.
pub use Rattle.bus_laws.proofs.TreeRules.BusTests
pub use Rattle.bus_laws.proofs.TreeRules.Implying
pub use Rattle.bus_laws.proofs.TreeRules.KeysNow
pub use Rattle.bus_laws.proofs.TreeRules.Lists
pub use Rattle.bus_laws.proofs.TreeRules.Statements
