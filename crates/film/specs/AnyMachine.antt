-- Of `any_machine`, what this crate and those above it name.
pub use Rattle.any_runs.specs.AnyMachine.Any
