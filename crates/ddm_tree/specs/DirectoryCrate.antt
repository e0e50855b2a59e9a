-- Of `directory`, what this crate and those above it name.
pub use Rattle.top_node.specs.DirectoryCrate.Stamps
