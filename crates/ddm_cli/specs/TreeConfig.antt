-- Of `tree_config`, what this crate and those above it name.
pub use Rattle.run_engine.specs.TreeConfig.Levels
pub use Rattle.run_engine.specs.TreeConfig.Ranges
pub use Rattle.run_engine.specs.TreeConfig.ShapeText
pub use Rattle.run_engine.specs.TreeConfig.TreeFile
pub use Rattle.run_engine.specs.TreeConfig.declared
