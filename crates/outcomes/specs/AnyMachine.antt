-- Of `any_machine`, what this crate and those above it name.
pub use Rattle.measuring.specs.AnyMachine.Any
pub use Rattle.measuring.specs.AnyMachine.Kind
pub use Rattle.measuring.specs.AnyMachine.declared
