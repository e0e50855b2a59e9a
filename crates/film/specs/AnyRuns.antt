-- Of `any_runs`, what crates above this one name.
pub use Rattle.any_runs.specs.Run
