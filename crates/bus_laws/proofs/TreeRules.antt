-- Of `tree_rules`, what this crate and those above it name.
pub use Rattle.tree_rules.proofs.BusTests
pub use Rattle.tree_rules.proofs.Implying
pub use Rattle.tree_rules.proofs.KeysNow
pub use Rattle.tree_rules.proofs.Lists
pub use Rattle.tree_rules.proofs.Statements
