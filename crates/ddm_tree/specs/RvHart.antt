-- Of `rv_hart`, what this crate and those above it name.
pub use Rattle.leaf_protocol.specs.RvHart.HartState
