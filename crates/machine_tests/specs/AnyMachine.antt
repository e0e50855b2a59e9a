-- Of `any_machine`, what this crate and those above it name.
pub use Rattle.run_engine.specs.AnyMachine.Any
