-- Of `tree_config`, what this crate and those above it name.
pub use Rattle.run_engine.proofs.TreeConfig.Even
pub use Rattle.run_engine.proofs.TreeConfig.GrammarScans
