-- Of `rv_hart`, what this crate and those above it name.
pub use Rattle.ddm_tree.specs.RvHart.HartState
