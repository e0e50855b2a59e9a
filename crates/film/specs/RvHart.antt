-- Of `rv_hart`, what this crate and those above it name.
pub use Rattle.any_runs.specs.RvHart.HartState
