-- Of `tree_config`, what this crate and those above it name.
pub use Rattle.tree_config.proofs.Even
pub use Rattle.tree_config.proofs.GrammarScans
