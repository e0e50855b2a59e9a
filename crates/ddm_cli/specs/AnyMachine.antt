-- Of `any_machine`, what this crate and those above it name.
pub use Rattle.no_jam.specs.AnyMachine.Any
pub use Rattle.no_jam.specs.AnyMachine.Kind
