-- Of `split_bus`, what this crate and those above it name.
pub use Rattle.inspector.specs.SplitBus.Outcomes
