-- Of `rv_hart`, what crates above this one name.
pub use Rattle.recording.specs.RvHart.HartState
