-- Of `rv_decode`, what this crate and those above it name.
pub use Rattle.tree_model.specs.RvDecode.declared
