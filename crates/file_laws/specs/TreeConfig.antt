-- Of `tree_config`, what this crate and those above it name.
pub use Rattle.tree_config.specs.TreeFile
