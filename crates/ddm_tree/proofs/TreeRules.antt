-- Of `tree_rules`, what this crate and those above it name.
pub use Rattle.headline.proofs.TreeRules.BusTests
pub use Rattle.headline.proofs.TreeRules.Implying
pub use Rattle.headline.proofs.TreeRules.KeysNow
pub use Rattle.headline.proofs.TreeRules.Lists
