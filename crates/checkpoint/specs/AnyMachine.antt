-- Of `any_machine`, what this crate and those above it name.
pub use Rattle.report.specs.AnyMachine.Any
pub use Rattle.report.specs.AnyMachine.Kind
