-- Of `any_machine`, what crates above this one name.
pub use Rattle.recording.specs.AnyMachine.Any
pub use Rattle.recording.specs.AnyMachine.Kind
pub use Rattle.recording.specs.AnyMachine.declared
