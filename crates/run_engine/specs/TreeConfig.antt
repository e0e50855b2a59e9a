-- Of `tree_config`, what this crate and those above it name.
pub use Rattle.tree_config.specs.Levels
pub use Rattle.tree_config.specs.Ranges
pub use Rattle.tree_config.specs.ShapeText
pub use Rattle.tree_config.specs.TreeFile
pub use Rattle.tree_config.specs.declared
