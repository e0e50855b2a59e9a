-- Of `any_machine`, what crates above this one name.
pub use Rattle.any_runs.specs.AnyMachine.Any
pub use Rattle.any_runs.specs.AnyMachine.Kind
pub use Rattle.any_runs.specs.AnyMachine.declared
