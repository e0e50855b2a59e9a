-- Of `rv_decode`, what this crate and those above it name.
pub use Rattle.rv_hart.specs.RvDecode.declared
