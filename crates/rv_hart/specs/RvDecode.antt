-- Of `rv_decode`, what this crate and those above it name.
pub use Rattle.flat_model.specs.RvDecode.Table
pub use Rattle.flat_model.specs.RvDecode.declared
