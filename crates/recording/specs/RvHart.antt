-- Of `rv_hart`, what crates above this one name.
pub use Rattle.any_runs.specs.RvHart.HartState
